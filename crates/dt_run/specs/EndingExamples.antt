-- Small worked examples of how runs end, and of endings that no run has.
use Rattle.std.specs.Prelude.{◌≡◌, ℕ, ◌≤◌, ◌⊎◌, List, [], ◌∷◌, length, codes, None, Some, refl}
use Rattle.std.specs.Fmt.{digits}
use Rattle.std.proofs.Common.{inl, inr, ap, sym, subst, ◌∙◌, arith, lit<, lit≤, length-append, take_all}
use Rattle.dt_script.specs.OneAnswer.{ScriptsHaveNoFault}
use Rattle.dt_script.specs.ReadScript.{WasRead, IsFaultOfSource, IsFaultRead}
use Rattle.dt_script.specs.ScriptOf.{IsFaultOf}
use Rattle.dt_script.specs.declared.limits.TheConstants.{SCRIPT_BYTES}
use Rattle.dt_script.specs.declared.script_fault.ScriptFault.{ScriptFault}
use Rattle.dt_script.specs.declared.script_fault.ScriptFault.TheVariants as fault
use Rattle.dt_run.specs.Ending.{Outside, outside, readers_of, status_of, EndsWith, RunEnding, EndsAs}
use Rattle.dt_run.specs.FaultText.{usage_text}
use Rattle.dt_run.specs.Run.{IsRunOf}
use Rattle.dt_run.specs.RunExamples.{smallest, smallest_script, smallest_is_script, log, text, smallest_was_run, no_run_to_version_1, no_run_of_no_byte}
use Rattle.dt_run.specs.Status.{number_of}
use Rattle.dt_run.specs.declared.status.Status.{Status}
use Rattle.dt_run.specs.declared.status.Status.TheVariants.{Done, Usage, Script, ReadFault, WriteFault, NoMemory}

-- ---- words, and for how many readers they ask

abbrev run : List (List ℕ)
run = codes "run" ∷ codes "--table" ∷ codes "sti" ∷ []

eight_readers : readers_of run ≡ Some 8
eight_readers = refl

one_reader : readers_of (codes "run" ∷ codes "--table=mrd" ∷ codes "--readers=1" ∷ []) ≡ Some 1
one_reader = refl

-- words that write no command, and one that runs no script of the source's
no_command : readers_of (codes "run" ∷ []) ≡ None
no_command = refl

no_run : readers_of (codes "gen" ∷ codes "--table" ∷ codes "sti" ∷ codes "--number=0" ∷ codes "--classes=2" ∷ codes "--selectors=1" ∷ []) ≡ None
no_run = refl

-- ---- how runs end, where two reads and three puts had failed before

-- all was read, where it is short
read_whole : (bytes : List ℕ) → length bytes ≤ SCRIPT_BYTES → WasRead (Some bytes) (Some []) bytes
read_whole bytes short = record { whole = refl; end = refl; short = short }

abbrev before : List ℕ → Outside
before left = outside (Some left) 2 (Some []) 3

-- after it, with these bytes left and taken
abbrev ended : List ℕ → ℕ → List ℕ → ℕ → Outside
ended left read_faults taken put_faults = outside (Some left) read_faults (Some taken) put_faults

done : RunEnding run Done (Some (log 0)) (before smallest) (ended [] 2 text 3)
done = (refl, refl, (smallest, read_whole smallest (lit≤ tt), (text, smallest_was_run 8, refl)))

-- the sink failed after seven bytes, and the log is handed back
cut_short : RunEnding run WriteFault (Some (log 0)) (before smallest) (ended [] 2 (codes "phase 1") 4)
cut_short = (refl, refl, (smallest, read_whole smallest (lit≤ tt), (text, smallest_was_run 8, (7, lit≤ tt, refl))))

-- this text was told whole, and no log is handed back
told : (left : List ℕ) (bytes : List ℕ) → EndsWith None (before smallest) (ended left 2 bytes 3) bytes
told left bytes = (refl, inl refl, record { prefix = (length bytes, omega arith, sym (take_all (length bytes) bytes (omega arith))); whole = λ calm. refl })

usage : RunEnding (codes "run" ∷ []) Usage None (before smallest) (ended smallest 2 usage_text 3)
usage = ((refl, refl), told smallest usage_text)

no_header : RunEnding run Script None (before []) (ended [] 2 (codes "fault no-header\n") 3)
no_header = (refl, (fault.NoHeader, refl, ([], read_whole [] (lit≤ tt), λ texts header. absurd cc), told [] (codes "fault no-header\n")))

-- the source failed after the first line
read_fault : RunEnding run ReadFault None (before smallest) (ended (codes "end\n") 3 (codes "fault read\n") 3)
read_fault = (refl, (codes "dispatch 1\n", lit≤ tt, refl), told (codes "end\n") (codes "fault read\n"))

-- memory may be wanted where nothing was read
no_memory : RunEnding [] NoMemory None (before smallest) (ended smallest 2 (codes "fault memory\n") 3)
no_memory = ((refl, refl), told smallest (codes "fault memory\n"))

-- ---- no run is done

-- without a log
done_without_a_log : RunEnding run Done None (before smallest) (ended [] 2 text 3) → ⊥
done_without_a_log (calm, calm_sink, (bytes, was, none)) = none

-- where the sink took fewer bytes than the text has, or more
done_with_more_or_less : (taken : List ℕ) → (length taken ≡ length text → ⊥) → RunEnding run Done (Some (log 0)) (before smallest) (ended [] 2 taken 3) → ⊥
unfolding digits
done_with_more_or_less taken other (calm, calm_sink, (bytes, was, (own, ran, took))) =
    let printed : Some text ≡ Some own = ran.printed in
    other (ap length took ∙ sym (ap length (inside printed)))
  where
    inside : Some text ≡ Some own → text ≡ own
    inside same = cc

-- with a log that is no outcome
done_at_another_version : RunEnding run Done (Some (log 1)) (before smallest) (ended [] 2 (codes "phase 1 0 0\ndone 1\n") 3) → ⊥
done_at_another_version (calm, calm_sink, (bytes, was, (own, ran, took))) = no_run_to_version_1 8 bytes own ran

-- of bytes that are no script, of other bytes than the source's, or before the end of these
done_without_a_script : RunEnding run Done (Some (log 0)) (before []) (ended [] 2 text 3) → ⊥
done_without_a_script (calm, calm_sink, (bytes, was, (own, ran, took))) =
    no_run_of_no_byte 8 (log 0) own (subst (λ b. IsRunOf 8 b (log 0) own) was.whole ran)

done_before_the_end : RunEnding run Done (Some (log 0)) (before smallest) (ended (codes "end\n") 2 text 3) → ⊥
done_before_the_end (calm, calm_sink, (bytes, was, done)) = by was.end
  where
    by : Some (codes "end\n") ≡ Some [] → ⊥
    by same = absurd cc

-- where a read or a put failed
done_at_a_read_fault : RunEnding run Done (Some (log 0)) (before smallest) (ended [] 3 text 3) → ⊥
done_at_a_read_fault (calm, calm_sink, read) = absurd cc

done_at_a_put_fault : RunEnding run Done (Some (log 0)) (before smallest) (ended [] 2 text 4) → ⊥
done_at_a_put_fault (calm, calm_sink, read) = absurd cc

-- under words that write no command
done_without_a_command : RunEnding (codes "run" ∷ []) Done (Some (log 0)) (before smallest) (ended [] 2 text 3) → ⊥
done_without_a_command ends = ends

-- ---- no run ends otherwise

-- a script has no fault that is told
never : ScriptsHaveNoFault → (readers : ℕ) (one : ScriptFault) → IsFaultRead readers (Some smallest) (Some []) one → ⊥
never law readers one (bytes, was, has) = law readers smallest smallest_script one (smallest_is_script readers) (subst (λ b. IsFaultOf readers b one) was.whole has)

no_fault : ScriptsHaveNoFault → (readers : ℕ) (one : ScriptFault) → status_of one ≡ Script → IsFaultOfSource readers (Some smallest) (Some []) one → ⊥
no_fault law readers fault.ReadFault is fault = cc
no_fault law readers fault.NoMemory is fault = cc
no_fault law readers fault.TooLong is (lost, count, split) = omega (arith, count, ap length split, length-append lost [])
no_fault law readers fault.NoHeader is read = never law readers fault.NoHeader read
no_fault law readers (fault.Malformed line) is read = never law readers (fault.Malformed line) read
no_fault law readers (fault.NamesFull line) is read = never law readers (fault.NamesFull line) read
no_fault law readers fault.NoEnd is read = never law readers fault.NoEnd read

script_has_a_fault : ScriptsHaveNoFault → (taken : List ℕ) → RunEnding run Script None (before smallest) (ended [] 2 taken 3) → ⊥
script_has_a_fault law taken (calm, (one, is, holds, ends)) = no_fault law 8 one is holds

-- usage comes for words that ask for no run, before anything was read
usage_of_a_command : RunEnding run Usage None (before smallest) (ended smallest 2 usage_text 3) → ⊥
usage_of_a_command ends = ends

usage_after_reading : RunEnding (codes "run" ∷ []) Usage None (before smallest) (ended [] 2 usage_text 3) → ⊥
usage_after_reading ((unread, calm), ends) = absurd cc

-- a read fault is counted, and a put fault while a log is printed too
read_fault_without_one : RunEnding run ReadFault None (before smallest) (ended [] 2 (codes "fault read\n") 3) → ⊥
read_fault_without_one (counted, few, ends) = absurd cc

-- nor does one come after a byte more than a script may have
read_fault_past_the_last : (bytes : List ℕ) → length bytes ≡ 16777217 → RunEnding run ReadFault None (before bytes) (ended [] 3 (codes "fault read\n") 3) → ⊥
read_fault_past_the_last bytes long (counted, (lost, few, split), ends) = omega (arith, long, few, ap length split, length-append lost [])

write_fault_without_one : RunEnding run WriteFault (Some (log 0)) (before smallest) (ended [] 2 (codes "phase 1") 3) → ⊥
write_fault_without_one (calm, counted, cut) = absurd cc

write_fault_without_a_log : RunEnding run WriteFault None (before smallest) (ended [] 2 (codes "phase 1") 4) → ⊥
write_fault_without_a_log (calm, counted, (bytes, was, none)) = none

-- with other endings no log is handed back, one put fails at most, and the text is whole where none does
memory_with_a_log : RunEnding run NoMemory (Some (log 0)) (before smallest) (ended [] 2 (codes "fault memory\n") 3) → ⊥
memory_with_a_log (calm, (none, counted, told)) = absurd cc

memory_with_two_put_faults : RunEnding run NoMemory None (before smallest) (ended [] 2 [] 5) → ⊥
memory_with_two_put_faults (calm, (none, counted, told)) = by counted
  where
    by : (◌≡◌ {A = ℕ} 5 3) ⊎ (◌≡◌ {A = ℕ} 5 4) → ⊥
    by (inl same) = absurd cc
    by (inr same) = absurd cc

usage_without_its_text : RunEnding (codes "run" ∷ []) Usage None (before smallest) (ended smallest 2 [] 3) → ⊥
usage_without_its_text (unread, (none, counted, told)) = by (told.whole (λ rose. omega (arith, rose (lit< tt))))
  where
    by : [] ≡ usage_text → ⊥
    by same = absurd cc

-- ---- the number of the program

number_of_a_run : EndsAs run ⊥ 0 (before smallest) (ended [] 2 text 3)
number_of_a_run = (Done, refl, inl (Some (log 0), done))

nothing_was_done : EndsAs run (Unit {0}) 6 (before smallest) (before smallest)
nothing_was_done = (NoMemory, refl, inr (refl, tt))

no_ending_is_1 : (status : Status) → number_of status ≡ 1 → ⊥
no_ending_is_1 Done is = absurd cc
no_ending_is_1 Usage is = absurd cc
no_ending_is_1 Script is = absurd cc
no_ending_is_1 ReadFault is = absurd cc
no_ending_is_1 WriteFault is = absurd cc
no_ending_is_1 NoMemory is = absurd cc

no_run_is_1 : EndsAs run (Unit {0}) 1 (before smallest) (ended [] 2 text 3) → ⊥
no_run_is_1 (status, number, ends) = no_ending_is_1 status (sym number)
