-- Small worked examples of texts that are scripts, and of the first faults of others.
use Rattle.std.specs.Prelude.{◌≡◌, ℕ, [], ◌∷◌, replicate, codes, true, false, refl}
use Rattle.std.proofs.Common.{inl, inr}
use Rattle.dt_definitions.specs.declared.edit.Edit.TheVariants as edit
use Rattle.dt_script.specs.NameBook.{NameBook, empty_book, is_within_limits, with_class_name}
use Rattle.dt_script.specs.Line.{LineOf}
use Rattle.dt_script.specs.ScriptOf.{WereRead, IsScriptOf, IsFaultOf, IsMalformed, IsFull}
use Rattle.dt_script.specs.Script.{Script}
use Rattle.dt_script.specs.declared.line.Line.TheVariants.{Header, AddClass, End}
use Rattle.dt_script.specs.declared.script_fault.ScriptFault.TheVariants.{ReadFault, NoHeader, Malformed, NoEnd, NoMemory, TooLong}

-- ---- no header

no_byte : IsFaultOf 8 [] NoHeader
no_byte texts header = absurd cc

comment_first : IsFaultOf 8 (codes "#\ndispatch 1\nend\n") NoHeader
comment_first texts header = absurd cc

-- a script is told too long where it is read, and not by its bytes
not_told_by_bytes : IsFaultOf 8 (codes "dispatch 1\nend\n") TooLong → ⊥
not_told_by_bytes fault = fault

-- and so are faults of reading, and want of memory
no_read_fault_by_bytes : IsFaultOf 8 (codes "dispatch 1\nend\n") ReadFault → ⊥
no_read_fault_by_bytes fault = fault

no_want_of_memory_by_bytes : IsFaultOf 8 (codes "dispatch 1\nend\n") NoMemory → ⊥
no_want_of_memory_by_bytes fault = fault

-- ---- the smallest script

abbrev end_line : LineOf (codes "end") empty_book End empty_book
end_line = record { texts = codes "end" ∷ []; spelled = refl; are_words = refl; written = (refl, tt); numbered = refl; in_range = refl }

abbrev smallest_script : Script
smallest_script = record { names = empty_book; phases = record { edits = []; callers = [] } ∷ [] }

end_was_read : WereRead 8 (codes "end" ∷ []) empty_book (End ∷ Header ∷ [])
end_was_read = inr (empty_book, Header ∷ [], End, (refl, refl), record { is_line = end_line; stands = refl; fits = refl }, refl, refl)

smallest : IsScriptOf 8 (codes "dispatch 1\nend\n") smallest_script
smallest = record {
  texts = codes "end" ∷ [];
  book = empty_book;
  past = End ∷ Header ∷ [];
  header = refl;
  were_read = end_was_read;
  ended = refl;
  built = refl;
}

-- comments and empty lines mean nothing after the header, and the last line feed may be missing
with_comments : IsScriptOf 8 (codes "dispatch 1\n# none\n\nend") smallest_script
with_comments = record {
  texts = codes "# none" ∷ [] ∷ codes "end" ∷ [];
  book = empty_book;
  past = End ∷ Header ∷ [];
  header = refl;
  were_read = inr (empty_book, Header ∷ [], End, inl (refl, inl (refl, (refl, refl))), record { is_line = end_line; stands = refl; fits = refl }, refl, refl);
  ended = refl;
  built = refl;
}

-- ---- no end

abbrev of_a_class : NameBook
of_a_class = record { classes = codes "A" ∷ []; selectors = []; bodies = [] }

class_line : LineOf (codes "class A") empty_book (AddClass 0 []) of_a_class
class_line = record {
  texts = codes "class" ∷ codes "A" ∷ [];
  spelled = refl;
  are_words = refl;
  written = (refl, (refl, tt));
  numbered = refl;
  in_range = refl;
}

no_end : IsFaultOf 8 (codes "dispatch 1\nclass A\n") NoEnd
no_end = record {
  texts = codes "class A" ∷ [];
  book = of_a_class;
  past = AddClass 0 [] ∷ Header ∷ [];
  header = refl;
  were_read = inr (empty_book, Header ∷ [], AddClass 0 [], (refl, refl), record { is_line = class_line; stands = refl; fits = refl }, refl, refl);
  goes_on = refl;
}

-- ---- lines in their order, and a line that may not stand

second_class : LineOf (codes "class B") of_a_class (AddClass 1 []) (record { classes = codes "A" ∷ codes "B" ∷ []; selectors = []; bodies = [] })
second_class = record {
  texts = codes "class" ∷ codes "B" ∷ [];
  spelled = refl;
  are_words = refl;
  written = (refl, (refl, tt));
  numbered = refl;
  in_range = refl;
}

end_of_a_class : LineOf (codes "end") of_a_class End of_a_class
end_of_a_class = record { texts = codes "end" ∷ []; spelled = refl; are_words = refl; written = (refl, tt); numbered = refl; in_range = refl }

class_was_read : WereRead 8 (codes "class A" ∷ []) of_a_class (AddClass 0 [] ∷ Header ∷ [])
class_was_read = inr (empty_book, Header ∷ [], AddClass 0 [], (refl, refl), record { is_line = class_line; stands = refl; fits = refl }, refl, refl)

abbrev of_two_classes : NameBook
of_two_classes = record { classes = codes "A" ∷ codes "B" ∷ []; selectors = []; bodies = [] }

end_of_two_classes : LineOf (codes "end") of_two_classes End of_two_classes
end_of_two_classes = record { texts = codes "end" ∷ []; spelled = refl; are_words = refl; written = (refl, tt); numbered = refl; in_range = refl }

two_classes : IsScriptOf 8 (codes "dispatch 1\nclass A\nclass B\nend\n") (record {
  names = of_two_classes;
  phases = record { edits = (edit.AddClass 0 [] ∷ []) ∷ (edit.AddClass 1 [] ∷ []) ∷ []; callers = [] } ∷ [];
})
two_classes = record {
  texts = codes "class A" ∷ codes "class B" ∷ codes "end" ∷ [];
  book = of_two_classes;
  past = End ∷ AddClass 1 [] ∷ AddClass 0 [] ∷ Header ∷ [];
  header = refl;
  were_read = inr (
    of_two_classes,
    AddClass 1 [] ∷ AddClass 0 [] ∷ Header ∷ [],
    End,
    inr (of_a_class, AddClass 0 [] ∷ Header ∷ [], AddClass 1 [], class_was_read, record { is_line = second_class; stands = refl; fits = refl }, refl, refl),
    record { is_line = end_of_two_classes; stands = refl; fits = refl },
    refl,
    refl,
  );
  ended = refl;
  built = refl;
}

-- a line after the end is malformed, however it is spelled
after_the_end : IsMalformed 8 (codes "pin") of_a_class (End ∷ AddClass 0 [] ∷ Header ∷ [])
after_the_end = record { means = refl; none = λ line after is stands. absurd cc }

-- the header is line 1
fourth_line : IsFaultOf 8 (codes "dispatch 1\nclass A\nend\npin\n") (Malformed 4)
fourth_line = (
  codes "class A" ∷ codes "end" ∷ codes "pin" ∷ [],
  2,
  codes "pin",
  of_a_class,
  End ∷ AddClass 0 [] ∷ Header ∷ [],
  refl,
  refl,
  refl,
  inr (of_a_class, AddClass 0 [] ∷ Header ∷ [], End, class_was_read, record { is_line = end_of_a_class; stands = refl; fits = refl }, refl, refl),
  after_the_end,
)

-- what means nothing isn't malformed
no_comment_is : IsMalformed 8 (codes "# none") empty_book (Header ∷ []) → ⊥
no_comment_is is = let means = is.means in absurd cc

-- ---- the limits of names

abbrev of_classes : ℕ → NameBook
of_classes count = record { classes = replicate count (codes "n"); selectors = []; bodies = [] }

the_last_class_fits : is_within_limits (of_classes 2048) ≡ true
the_last_class_fits = refl

one_more_does_not : is_within_limits (of_classes 2049) ≡ false
one_more_does_not = refl

abbrev of_others : ℕ → ℕ → NameBook
of_others selectors bodies = record { classes = []; selectors = replicate selectors (codes "n"); bodies = replicate bodies (codes "n") }

the_last_selector_fits : is_within_limits (of_others 4096 0) ≡ true
the_last_selector_fits = refl

one_more_selector_does_not : is_within_limits (of_others 4097 0) ≡ false
one_more_selector_does_not = refl

the_last_body_fits : is_within_limits (of_others 0 65536) ≡ true
the_last_body_fits = refl

one_more_body_does_not : is_within_limits (of_others 0 65537) ≡ false
one_more_body_does_not = refl

-- names are full at the class that has no number left
full_at_a_class : IsFull 8 (codes "class B") (of_classes 2048) (Header ∷ [])
full_at_a_class = record {
  line = AddClass 2048 [];
  after = with_class_name (of_classes 2048) (codes "B");
  is_line = record {
    texts = codes "class" ∷ codes "B" ∷ [];
    spelled = refl;
    are_words = refl;
    written = (refl, (refl, tt));
    numbered = refl;
    in_range = refl;
  };
  stands = refl;
  full = refl;
}
