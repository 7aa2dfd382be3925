-- What is said of one of two rules, by the one that it is.
use Rattle.any_rule.specs.declared.OneOf.{OneOf}
use Rattle.any_rule.specs.declared.OneOf.TheVariants.{First, Second}

abbrev pub of_either : {A B C : Type 0} → (A → C) → (B → C) → OneOf A B → C
of_either f g (First a) = f a
of_either f g (Second b) = g b
