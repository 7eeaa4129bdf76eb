-- How a refusal is told: its number, its word, and the class that it is about.
use Rattle.std.specs.Prelude.{ℕ, List, Option, None, Some, codes}
use Rattle.dt_definitions.specs.declared.why.Why.{Why}
use Rattle.dt_definitions.specs.declared.why.Why.TheVariants.{ClassExists, ClassUnknown, ParentTwice, TooManyParents, HasSubclasses, LinkExists, LinkUnknown, Cycle, SelectorExists, SelectorUnknown, ArityDiffers, NoDefinition, HasDefinitions, DefinitionsFull}

-- the number; 9 is none of an edit
abbrev pub number_of : Why → ℕ
number_of ClassExists = 1
number_of (ClassUnknown class) = 2
number_of (ParentTwice class) = 3
number_of TooManyParents = 4
number_of (HasSubclasses class) = 5
number_of LinkExists = 6
number_of LinkUnknown = 7
number_of Cycle = 8
number_of SelectorExists = 10
number_of SelectorUnknown = 11
number_of ArityDiffers = 12
number_of NoDefinition = 13
number_of HasDefinitions = 14
number_of DefinitionsFull = 15

-- the word
abbrev pub word_of : Why → List ℕ
word_of ClassExists = codes "class-exists"
word_of (ClassUnknown class) = codes "class-unknown"
word_of (ParentTwice class) = codes "parent-twice"
word_of TooManyParents = codes "too-many-parents"
word_of (HasSubclasses class) = codes "has-subclasses"
word_of LinkExists = codes "link-exists"
word_of LinkUnknown = codes "link-unknown"
word_of Cycle = codes "cycle"
word_of SelectorExists = codes "selector-exists"
word_of SelectorUnknown = codes "selector-unknown"
word_of ArityDiffers = codes "arity-differs"
word_of NoDefinition = codes "no-definition"
word_of HasDefinitions = codes "has-definitions"
word_of DefinitionsFull = codes "definitions-full"

-- the class, if it is about one
abbrev pub class_of : Why → Option ℕ
class_of (ClassUnknown class) = Some class
class_of (ParentTwice class) = Some class
class_of (HasSubclasses class) = Some class
class_of ClassExists = None
class_of TooManyParents = None
class_of LinkExists = None
class_of LinkUnknown = None
class_of Cycle = None
class_of SelectorExists = None
class_of SelectorUnknown = None
class_of ArityDiffers = None
class_of NoDefinition = None
class_of HasDefinitions = None
class_of DefinitionsFull = None
