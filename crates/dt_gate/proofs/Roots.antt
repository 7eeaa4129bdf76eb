-- Roots: how they stand, and what a lay, a publish and a poll make of them.
use Rattle.std.proofs.Common.{◌≡◌, ◌≢◌, ℕ, ◌<◌, ◌==◌, Bool, true, false, cond, [], ◌∷◌, ◌++◌, length, set, Option, Some, None, refl, sym, ap, subst, ◌∙◌, eqb-true, eq-eqb, true≢false, length-set}
use Rattle.dt_gate.specs.declared.event.RecordWord.{RecordWord}
use Rattle.dt_gate.specs.declared.event.RecordWord.TheVariants.{Exits, Version, Top}
use Rattle.dt_gate.specs.declared.gate.Author.{Author}
use Rattle.dt_gate.specs.declared.gate.Root.{Root}
use Rattle.dt_gate.specs.declared.gate.Standing.{Standing}
use Rattle.dt_gate.specs.declared.gate.Standing.TheVariants.{Free, Now, Old}
use Rattle.dt_gate.specs.Gate.{IsLive, blank_root, nothing_laid, root_at, IsOld}
use Rattle.dt_gate.specs.Author.{with_root, with_word, after_publish, is_new_sweep, with_new_sweep, poll_finds, after_poll}
use Rattle.dt_gate.proofs.Lists.{in_list, at_set, at_change}
use Rattle.dt_gate.proofs.Seats.{root_here}

pub old_is_not_now : {n : ℕ} → ¬ (Old n ≡ Now)
old_is_not_now c = cc

pub now_is_not_old : {n : ℕ} → ¬ (Now ≡ Old n)
now_is_not_old c = cc

pub now_is_not_free : ¬ (Now ≡ Free)
now_is_not_free c = cc

pub old_is_not_free : {n : ℕ} → ¬ (Old n ≡ Free)
old_is_not_free c = cc

pub free_is_not_now : ¬ (Free ≡ Now)
free_is_not_now c = cc

pub free_is_not_old : {n : ℕ} → ¬ (Free ≡ Old n)
free_is_not_old c = cc

-- an old root has one number of final entries
pub old_is : {n m : ℕ} → Old n ≡ Old m → n ≡ m
old_is c = cc

pub none_is_not_some : (word : ℕ) → ¬ (◌≡◌ {A = Option ℕ} None (Some word))
none_is_not_some word c = cc

-- a lay leaves the root standing as it stood
pub lay_keeps_standing : (root : Root) (word : RecordWord) (value : ℕ) → (with_word root word value).standing ≡ root.standing
lay_keeps_standing root Exits value = refl
lay_keeps_standing root Version value = refl
lay_keeps_standing root Top value = refl

module _ {M I : Type 0} where
  -- the current root as a publish leaves it
  abbrev pub gone_root : Author M I → ℕ → Root
  gone_root author entries = record (root_at author author.current) { standing = Old entries }

  -- a root as its publish makes it
  abbrev pub new_root : Author M I → ℕ → Root
  new_root author root = record (root_at author root) { standing = Now; laid = nothing_laid }

  -- a root after it was freed
  abbrev pub freed_root : Author M I → ℕ → Root
  freed_root author root = record (root_at author root) { standing = Free }

  -- where one root changes and keeps a part, every root has this part as it was
  pub part_stays : {X : Type 0} (part : Root → X) (author : Author M I) (root : ℕ) (to : Root) → part to ≡ part (root_at author root)
      → (x : ℕ) → part (root_at (with_root author root to) x) ≡ part (root_at author x)
  part_stays part author root to same x = at_set (λ r. part r ≡ part (root_at author x)) blank_root author.roots root x to
      (λ e. same ∙ ap (λ k. part (root_at author k)) (sym e)) (λ n. refl) (λ past. refl)

  -- what holds of the root at x after a publish
  pub at_publish : (author : Author M I) (root : ℕ) (item : I) (entries : ℕ) → IsLive (root_at author author.current).standing → (root_at author root).laid.exits ≡ Some 0 → (P : Root → Type 0) (x : ℕ)
      → (x ≡ root → P (new_root author root)) → (x ≢ root → x ≡ author.current → P (gone_root author entries)) → (x ≢ root → x ≢ author.current → P (root_at author x))
      → P (root_at (after_publish author root item entries) x)
  at_publish author root item entries live laid P x same old other =
      at_change P blank_root (set author.roots author.current (gone_root author entries)) root x (new_root author root)
      (subst (λ n. root < n) (sym (length-set author.roots author.current (gone_root author entries))) here)
      same (λ n. at_change P blank_root author.roots author.current x (gone_root author entries) (root_here author author.current live) (old n) (other n))
    where
      here : root < length author.roots
      here = in_list (λ (r : Root). r.laid.exits ≡ Some 0) blank_root (none_is_not_some 0) author.roots root laid

  -- the author after exits were read
  abbrev pub polled : Author M I → ℕ → ℕ → Author M I
  polled author root exits = record author { polls = author.polls ++ (root, exits) ∷ [] }

  -- the same where a new sweep begins
  abbrev pub polled_anew : Author M I → ℕ → ℕ → Author M I
  polled_anew author root exits = record (polled author root exits) { held = []; sweep = author.out }

  -- what a poll of an old root may lead to: a new sweep or not, and the root free or found held
  pub poll_leads : (P : Author M I → Type 0) (author : Author M I) (root exits : ℕ) → IsOld (root_at author root).standing
      → (is_new_sweep author root ≡ true → (entries : ℕ) → (root_at author root).standing ≡ Old entries → exits ≡ entries
      → P (with_root (polled_anew author root exits) root (freed_root author root)))
      → (is_new_sweep author root ≡ true → (entries : ℕ) → (root_at author root).standing ≡ Old entries → exits ≢ entries
      → P (record (polled_anew author root exits) { held = root ∷ [] }))
      → (is_new_sweep author root ≡ false → (entries : ℕ) → (root_at author root).standing ≡ Old entries → exits ≡ entries
      → P (with_root (polled author root exits) root (freed_root author root)))
      → (is_new_sweep author root ≡ false → (entries : ℕ) → (root_at author root).standing ≡ Old entries → exits ≢ entries
      → P (record (polled author root exits) { held = author.held ++ root ∷ [] }))
      → P (after_poll author root exits)
  poll_leads P author root exits polls_old anew_frees anew_holds frees holds = standing (root_at author root).standing refl polls_old
    where
      apart : (entries : ℕ) → (exits == entries) ≡ false → exits ≢ entries
      apart entries e same = true≢false (sym (eq-eqb _ _ same) ∙ e)

      anew_tested : is_new_sweep author root ≡ true → (entries : ℕ) → (root_at author root).standing ≡ Old entries → (same : Bool) → (exits == entries) ≡ same
          → P (cond same (with_root (polled_anew author root exits) root (freed_root author root)) (record (polled_anew author root exits) { held = root ∷ [] }))
      anew_tested new entries old true e = anew_frees new entries old (eqb-true _ _ e)
      anew_tested new entries old false e = anew_holds new entries old (apart entries e)

      tested : is_new_sweep author root ≡ false → (entries : ℕ) → (root_at author root).standing ≡ Old entries → (same : Bool) → (exits == entries) ≡ same
          → P (cond same (with_root (polled author root exits) root (freed_root author root)) (record (polled author root exits) { held = author.held ++ root ∷ [] }))
      tested new entries old true e = frees new entries old (eqb-true _ _ e)
      tested new entries old false e = holds new entries old (apart entries e)

      sweeps : (entries : ℕ) → (root_at author root).standing ≡ Old entries → (new : Bool) → is_new_sweep author root ≡ new
          → P (poll_finds (cond new (polled_anew author root exits) (polled author root exits)) root exits (Old entries))
      sweeps entries old true is = anew_tested is entries old (exits == entries) refl
      sweeps entries old false is = tested is entries old (exits == entries) refl

      standing : (st : Standing) → (root_at author root).standing ≡ st → IsOld st → P (poll_finds (with_new_sweep (polled author root exits) root) root exits st)
      standing Free is never = absurd never
      standing Now is never = absurd never
      standing (Old entries) is _ = sweeps entries is (is_new_sweep author root) refl
