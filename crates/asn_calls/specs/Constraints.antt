-- Constraints that are one element (X.680 50.1), without set operators.
use Rattle.std.specs.Prelude.{ℤ, Bool, false, Option, Some, None}
use Rattle.asn_tree.specs.declared.constraints.Constraint.{Constraint, Constraint-F, out-Constraint}
use Rattle.asn_tree.specs.declared.constraints.ElementOrSetOperation.{ElementOrSetOperation-F, out-ElementOrSetOperation}
use Rattle.asn_tree.specs.declared.constraints.SubtypeElement.{SubtypeElement, SubtypeElement-F, out-SubtypeElement}
use Rattle.asn_tree.specs.declared.values.ASN1Value.{ASN1Value, ASN1Value-F, out-ASN1Value}
use Rattle.asn_tree.specs.Layers.{ConstraintLayer, SetLayer, ElementLayer, ValueLayer}

abbrev pub element_in_set : SetLayer → Option SubtypeElement
element_in_set (ElementOrSetOperation-F.Element e) = Some e
element_in_set _ = None

abbrev pub element_at : ConstraintLayer → Option SubtypeElement
element_at (Constraint-F.SubtypeConstraint s) = element_in_set (out-ElementOrSetOperation s.set)
element_at _ = None

-- the element, where the constraint is one
abbrev pub element_of : Constraint → Option SubtypeElement
element_of c = element_at (out-Constraint c)

abbrev pub range_at : ElementLayer → Option (Option ASN1Value × Option ASN1Value × Bool)
range_at (SubtypeElement-F.ValueRange min max min_open max_open extensible) = Some (min, max, extensible)
range_at _ = None

abbrev pub range_in : Option SubtypeElement → Option (Option ASN1Value × Option ASN1Value × Bool)
range_in None = None
range_in (Some e) = range_at (out-SubtypeElement e)

-- both ends of a range, and whether an extension marker follows, where the constraint is one range (X.680 51.4)
abbrev pub range_of : Constraint → Option (Option ASN1Value × Option ASN1Value × Bool)
range_of c = range_in (element_of c)

abbrev pub single_at : ElementLayer → Option (ASN1Value × Bool)
single_at (SubtypeElement-F.SingleValue value extensible) = Some (value, extensible)
single_at _ = None

abbrev pub single_in : Option SubtypeElement → Option (ASN1Value × Bool)
single_in None = None
single_in (Some e) = single_at (out-SubtypeElement e)

-- the value, and whether an extension marker follows, where the constraint is one single value (X.680 51.2)
abbrev pub single_of : Constraint → Option (ASN1Value × Bool)
single_of c = single_in (element_of c)

abbrev pub number_at : ValueLayer → Option ℤ
number_at (ASN1Value-F.ASN1Value::Integer i) = Some i
number_at _ = None

-- the number, where the value is a whole number (X.680 19.9)
abbrev pub number_of : ASN1Value → Option ℤ
number_of v = number_at (out-ASN1Value v)

-- both, where both are there
abbrev pub both : Option ℤ → Option ℤ → Option (ℤ × ℤ)
both None high = None
both (Some low) None = None
both (Some low) (Some high) = Some (low, high)

abbrev pub number_in : Option ASN1Value → Option ℤ
number_in None = None
number_in (Some v) = number_of v

abbrev pub bounds_at : ElementLayer → Option (ℤ × ℤ)
bounds_at (SubtypeElement-F.ValueRange min max min_open max_open false) = both (number_in min) (number_in max)
bounds_at (SubtypeElement-F.SingleValue value false) = both (number_of value) (number_of value)
bounds_at _ = None

abbrev pub bounds_in : Option SubtypeElement → Option (ℤ × ℤ)
bounds_in None = None
bounds_in (Some e) = bounds_at (out-SubtypeElement e)

-- the least and the greatest number, where the constraint is one range with whole numbers as its ends, or one whole
-- number, and no extension marker follows
abbrev pub bounds_of : Constraint → Option (ℤ × ℤ)
bounds_of c = bounds_in (element_of c)
