-- Small worked examples of summaries: what is counted as what, in which order calls are mixed, and the ten lines.
use Rattle.std.specs.Prelude.{◌≡◌, ℕ, List, [], ◌∷◌, codes, refl}
use Rattle.std.specs.Fmt.{digits}
use Rattle.dt_definitions.specs.declared.why.Why.TheVariants.{Cycle}
use Rattle.dt_scratch.specs.declared.reply.Answer.TheVariants.{Method, NotUnderstood, Ambiguous}
use Rattle.dt_scratch.specs.declared.reply.Reply.{Reply}
use Rattle.dt_scratch.specs.declared.reply.Reply.TheVariants.{NoSelector, WrongArity, NoClass, Answered}
use Rattle.dt_script.specs.NameBook.{NameBook, empty_book}
use Rattle.dt_run.specs.Log.{Log, PartLog}
use Rattle.dt_run.specs.Summary.{mix_of, summary_of}
use Rattle.dt_run.specs.declared.log.CallLine.{CallLine}
use Rattle.dt_run.specs.declared.log.CallLine.TheVariants.{Called, CallWorn, PinnedAt, PinWorn, Unpinned}
use Rattle.dt_run.specs.declared.log.EditLine.TheVariants.{Accepted, Refused, VersionsFull, CellsFull, RowsFull, NoPages}

-- a call at version 9
abbrev called : Reply → CallLine
called reply = Called (record { version = 9; reply = reply })

-- a log of one phase with these callers, and no batch
abbrev calls_of : List PartLog → Log
calls_of parts = record { phases = record { from = 0; to = 0; edits = []; callers = parts } ∷ []; last = 0 }

-- nothing happened
nothing : summary_of empty_book (record { phases = []; last = 0 })
    ≡ codes "classes 0\nselectors 0\naccepted 0\nrefused 0\nmethod 0\nambiguous 0\nnot-understood 0\nother 0\nmix 0\ndone 0\n"
unfolding digits
nothing = refl

-- a code of 3 is mixed before one of 1; a call that came to no answer is mixed as 0, and a pin isn't mixed
mixed_in_order : mix_of (calls_of (record { caller = 2; lines = called (Answered (Method 1)) ∷ PinnedAt 9 ∷ called (Answered Ambiguous) ∷ [] } ∷ [])) ≡ 94
mixed_in_order = refl

callers_in_order : mix_of (calls_of (record { caller = 2; lines = called (Answered Ambiguous) ∷ [] } ∷ record { caller = 1; lines = called (Answered (Method 1)) ∷ called NoSelector ∷ [] } ∷ [])) ≡ 1054
callers_in_order = refl

-- the mix of calls stays below 2^32
mixed_around : mix_of (calls_of (record {
  caller = 1;
  lines = called (Answered (Method 65535)) ∷ called (Answered (Method 65535)) ∷ called (Answered (Method 65535))
      ∷ called (Answered (Method 65535)) ∷ [];
} ∷ [])) ≡ 2017491008
mixed_around = refl

-- every ending of a batch and of a call is counted once, over all phases and callers
each_counted : summary_of (record { classes = codes "A" ∷ codes "B" ∷ codes "C" ∷ []; selectors = codes "f" ∷ codes "g" ∷ []; bodies = codes "b" ∷ [] }) (record {
  phases = record {
    from = 0;
    to = 2;
    edits = Accepted 1 ∷ Refused 1 Cycle ∷ Accepted 2 ∷ VersionsFull ∷ CellsFull ∷ RowsFull ∷ NoPages 7 3 ∷ [];
    callers = record { caller = 1; lines = called NoSelector ∷ called WrongArity ∷ PinWorn 5 ∷ [] } ∷ record { caller = 2; lines = called (NoClass 1) ∷ CallWorn 5 ∷ [] } ∷ [];
  } ∷ record {
    from = 2;
    to = 3;
    edits = Accepted 3 ∷ [];
    callers = record { caller = 2; lines = PinnedAt 2 ∷ called (Answered (Method 0)) ∷ called (Answered (Method 0)) ∷ called (Answered Ambiguous) ∷ Unpinned ∷ called (Answered NotUnderstood) ∷ [] } ∷ [];
  } ∷ [];
  last = 3;
})
    ≡ codes "classes 3\nselectors 2\naccepted 3\nrefused 5\nmethod 2\nambiguous 1\nnot-understood 1\nother 4\nmix 61535\ndone 3\n"
unfolding digits
each_counted = refl
