-- The numbers of marks lie above those of the rules.
use Rattle.std.proofs.Common.{◌<◌, arith}
use Rattle.asn_rules.specs.Marks.{mark_number}
use Rattle.asn_rules.specs.declared.marks.Mark.{Mark}
use Rattle.asn_rules.specs.declared.marks.Mark.TheVariants.{True, False, Private, Application, Universal, Explicit, Implicit, Automatic, Ia5String, Utf8String, NumericString, VisibleString, TeletexString, VideotexString, GraphicString, GeneralString, UniversalString, BmpString, PrintableString, Intersection, Union, Except, Partial, Present, Absent, Optional, LowOpen, HighOpen, Unique, Extensibility, All, Successors, Descendants, Comma, Basic, Date, Year, Time, LocalOrUtc, IntervalType, SePoint, Recurrence, Midnight}

pub above_rules : (m : Mark) → 190 < mark_number m
above_rules True = omega arith
above_rules False = omega arith
above_rules Private = omega arith
above_rules Application = omega arith
above_rules Universal = omega arith
above_rules Explicit = omega arith
above_rules Implicit = omega arith
above_rules Automatic = omega arith
above_rules Ia5String = omega arith
above_rules Utf8String = omega arith
above_rules NumericString = omega arith
above_rules VisibleString = omega arith
above_rules TeletexString = omega arith
above_rules VideotexString = omega arith
above_rules GraphicString = omega arith
above_rules GeneralString = omega arith
above_rules UniversalString = omega arith
above_rules BmpString = omega arith
above_rules PrintableString = omega arith
above_rules Intersection = omega arith
above_rules Union = omega arith
above_rules Except = omega arith
above_rules Partial = omega arith
above_rules Present = omega arith
above_rules Absent = omega arith
above_rules Optional = omega arith
above_rules LowOpen = omega arith
above_rules HighOpen = omega arith
above_rules Unique = omega arith
above_rules Extensibility = omega arith
above_rules All = omega arith
above_rules Successors = omega arith
above_rules Descendants = omega arith
above_rules Comma = omega arith
above_rules Basic = omega arith
above_rules Date = omega arith
above_rules Year = omega arith
above_rules Time = omega arith
above_rules LocalOrUtc = omega arith
above_rules IntervalType = omega arith
above_rules SePoint = omega arith
above_rules Recurrence = omega arith
above_rules Midnight = omega arith
