-- The whole numbers that a constraint admits by one range or one value. What every other constraint accepts is not said
-- here: it admits each number.
use Rattle.std.specs.Prelude.{◌≡◌, ℤ, ◌≤ℤ◌, ◌<ℤ◌, Bool, true, false, List, [], ◌∷◌, Option, Some, None, ⊤}
use Rattle.asn_tree.specs.declared.constraints.Constraint.{Constraint}
use Rattle.asn_tree.specs.declared.constraints.SubtypeElement.{SubtypeElement, SubtypeElement-F, out-SubtypeElement}
use Rattle.asn_tree.specs.Layers.{ElementLayer}
use Rattle.asn_calls.specs.Constraints.{element_of, number_in, number_of}

-- The number is the end of a range or lies above it, where `<` leaves the end out. An end that is no whole number bounds
-- nothing (X.680 51.4).
abbrev pub IsFrom : Bool → Option ℤ → ℤ → Type 0
IsFrom without None i = ⊤
IsFrom true (Some end) i = end <ℤ i
IsFrom false (Some end) i = end ≤ℤ i

abbrev pub IsTo : Bool → Option ℤ → ℤ → Type 0
IsTo without None i = ⊤
IsTo true (Some end) i = i <ℤ end
IsTo false (Some end) i = i ≤ℤ end

-- The number is that of a single value, if this is a whole number (X.680 51.2).
abbrev pub IsSingle : Option ℤ → ℤ → Type 0
IsSingle None i = ⊤
IsSingle (Some value) i = i ≡ value

-- An extension marker changes nothing: the root decides.
abbrev pub AdmitsAt : ElementLayer → ℤ → Type 0
AdmitsAt (SubtypeElement-F.ValueRange min max min_open max_open extensible) i = IsFrom min_open (number_in min) i × IsTo max_open (number_in max) i
AdmitsAt (SubtypeElement-F.SingleValue value extensible) i = IsSingle (number_of value) i
AdmitsAt _ i = ⊤

abbrev pub AdmitsIn : Option SubtypeElement → ℤ → Type 0
AdmitsIn None i = ⊤
AdmitsIn (Some e) i = AdmitsAt (out-SubtypeElement e) i

abbrev pub Admits : Constraint → ℤ → Type 0
Admits c i = AdmitsIn (element_of c) i

-- Constraints written one behind the other all apply (X.680 49.6).
abbrev pub AllAdmit : List Constraint → ℤ → Type 0
AllAdmit [] i = ⊤
AllAdmit (c ∷ cs) i = Admits c i × AllAdmit cs i
