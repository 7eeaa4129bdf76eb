-- Small worked examples of how runs of a generated script end, with the smallest script in its place.
use Rattle.std.specs.Prelude.{◌≡◌, ℕ, ◌≤◌, List, [], ◌∷◌, length, codes, None, Some, refl}
use Rattle.std.specs.Fmt.{digits}
use Rattle.std.proofs.Common.{◌∙◌, ap, inl, arith, lit≤, sym, take_all}
use Rattle.dt_script.specs.GeneratedLaws.{generated_script}
use Rattle.dt_words.specs.CommandOf.{command_of}
use Rattle.dt_words.specs.declared.command.Command.TheVariants.{Gen}
use Rattle.dt_words.specs.declared.command.Table.TheVariants.{Row}
use Rattle.dt_words.specs.declared.limits.TheConstants.{VERSIONS}
use Rattle.dt_run.specs.Ending.{Outside, outside, EndsWith, IsGeneration, RunEnding, SummedEnding}
use Rattle.dt_run.specs.Log.{Log}
use Rattle.dt_run.specs.Outcome.{Outcome}
use Rattle.dt_run.specs.RunExamples.{smallest_script, log, text, no_other_last}
use Rattle.dt_run.specs.Summary.{summary_of}
use Rattle.dt_run.specs.declared.status.Status.{Status}
use Rattle.dt_run.specs.declared.status.Status.TheVariants.{Done, Usage, Script, ReadFault, WriteFault, NoMemory}

-- ---- words that ask for a generated script

abbrev gen : List (List ℕ)
gen = codes "gen" ∷ codes "--table=row" ∷ codes "--number=7" ∷ codes "--classes=2" ∷ codes "--selectors=1" ∷ []

asks : command_of gen ≡ Some (Gen Row 7 2 1)
asks = refl

is_generation : IsGeneration (command_of gen)
is_generation = tt

-- the script is that of the number, the classes and the selectors, in this order
its_own_script : (status : Status) (old new : Outside) → RunEnding gen status None old new ≡ SummedEnding (generated_script 7 2 1) status None old new
its_own_script status old new = refl

-- ---- how it ends, where two reads and three puts had failed before, and the source has bytes

abbrev summary : List ℕ
summary = codes "classes 0\nselectors 0\naccepted 0\nrefused 0\nmethod 0\nambiguous 0\nnot-understood 0\nother 0\nmix 0\ndone 0\n"

abbrev before : Outside
before = outside (Some (codes "end\n")) 2 (Some []) 3

-- after it, with these bytes left and taken
abbrev ended : List ℕ → ℕ → List ℕ → ℕ → Outside
ended left read_faults taken put_faults = outside (Some left) read_faults (Some taken) put_faults

its_summary : summary_of smallest_script.names (log 0) ≡ summary
unfolding digits
its_summary = refl

was_performed : Outcome smallest_script VERSIONS (log 0)
was_performed = record { shape = ((refl, tt), tt); versions = (refl, tt, refl, refl); edits = (tt, tt); calls = tt }

done : SummedEnding smallest_script Done (Some (log 0)) before (ended (codes "end\n") 2 summary 3)
done = ((refl, refl), refl, (was_performed, sym its_summary))

-- the sink failed after seven bytes, and the log is handed back
cut_short : SummedEnding smallest_script WriteFault (Some (log 0)) before (ended (codes "end\n") 2 (codes "classes") 4)
unfolding digits
cut_short = ((refl, refl), refl, (was_performed, (7, lit≤ tt, refl)))

-- this text was told whole, and no log is handed back
told : (bytes : List ℕ) → EndsWith None before (ended (codes "end\n") 2 bytes 3) bytes
told bytes = (refl, inl refl, record { prefix = (length bytes, omega arith, sym (take_all (length bytes) bytes (omega arith))); whole = λ calm. refl })

memory : SummedEnding smallest_script NoMemory None before (ended (codes "end\n") 2 (codes "fault memory\n") 3)
memory = ((refl, refl), told (codes "fault memory\n"))

-- ---- no run of it ends so

-- done without a log, or with one that is no outcome
done_without_a_log : SummedEnding smallest_script Done None before (ended (codes "end\n") 2 summary 3) → ⊥
done_without_a_log (unread, calm, none) = none

done_at_another_version : SummedEnding smallest_script Done (Some (log 1)) before (ended (codes "end\n") 2 summary 3) → ⊥
done_at_another_version (unread, calm, (outcome, took)) = no_other_last smallest_script.phases outcome.versions

text_is_no_summary : text ≡ summary → ⊥
text_is_no_summary same = omega (arith, ap length same)

front_is_no_summary : codes "classes" ≡ summary → ⊥
front_is_no_summary same = absurd cc

-- done with the text of the log in the place of its summary, or before the end of this
done_with_the_logs_text : SummedEnding smallest_script Done (Some (log 0)) before (ended (codes "end\n") 2 text 3) → ⊥
done_with_the_logs_text (unread, calm, (outcome, took)) = text_is_no_summary (took ∙ its_summary)

done_before_the_end : SummedEnding smallest_script Done (Some (log 0)) before (ended (codes "end\n") 2 (codes "classes") 3) → ⊥
done_before_the_end (unread, calm, (outcome, took)) = front_is_no_summary (took ∙ its_summary)

-- done after something was read, after a read failed, or though a put failed
done_after_reading : SummedEnding smallest_script Done (Some (log 0)) before (ended [] 2 summary 3) → ⊥
done_after_reading ((left, calm), stood, ends) = absurd cc

done_after_a_read_fault : SummedEnding smallest_script Done (Some (log 0)) before (ended (codes "end\n") 3 summary 3) → ⊥
done_after_a_read_fault ((left, calm), stood, ends) = absurd cc

done_at_a_put_fault : SummedEnding smallest_script Done (Some (log 0)) before (ended (codes "end\n") 2 summary 4) → ⊥
done_at_a_put_fault (unread, calm, ends) = absurd cc

-- a write fault without a log, or without a put that failed
write_fault_without_a_log : SummedEnding smallest_script WriteFault None before (ended (codes "end\n") 2 (codes "classes") 4) → ⊥
write_fault_without_a_log (unread, once, none) = none

write_fault_without_one : SummedEnding smallest_script WriteFault (Some (log 0)) before (ended (codes "end\n") 2 (codes "classes") 3) → ⊥
write_fault_without_one (unread, once, ends) = absurd cc

-- memory was wanted, and a log is handed back
memory_with_a_log : SummedEnding smallest_script NoMemory (Some (log 0)) before (ended (codes "end\n") 2 (codes "fault memory\n") 3) → ⊥
memory_with_a_log (unread, (handed, counted, ends)) = absurd cc

-- usage, a fault of a script or a read fault
no_usage : (new : Outside) → RunEnding gen Usage None before new → ⊥
no_usage new ends = ends

no_fault_of_a_script : (new : Outside) → RunEnding gen Script None before new → ⊥
no_fault_of_a_script new ends = ends

no_read_fault : (new : Outside) → RunEnding gen ReadFault None before new → ⊥
no_read_fault new ends = ends
