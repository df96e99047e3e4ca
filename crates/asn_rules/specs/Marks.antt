-- The numbers of the leaves that words and symbols leave.
use Rattle.std.specs.Prelude.{ℕ}
use Rattle.asn_rules.specs.declared.marks.Mark.{Mark}
use Rattle.asn_rules.specs.declared.marks.Mark.TheVariants.{True, False, Private, Application, Universal, Explicit, Implicit, Automatic, Ia5String, Utf8String, NumericString, VisibleString, TeletexString, VideotexString, GraphicString, GeneralString, UniversalString, BmpString, PrintableString, Intersection, Union, Except, Partial, Present, Absent, Optional, LowOpen, HighOpen, Unique, Extensibility, All, Successors, Descendants, Comma, Basic, Date, Year, Time, LocalOrUtc, IntervalType, SePoint, Recurrence, Midnight}
use Rattle.asn_rules.specs.declared.names.TheConstants.{MARK_ABSENT, MARK_ALL, MARK_APPLICATION, MARK_AUTOMATIC, MARK_BASIC, MARK_BMP_STRING, MARK_COMMA, MARK_DATE, MARK_DESCENDANTS, MARK_EXCEPT, MARK_EXPLICIT, MARK_EXTENSIBILITY, MARK_FALSE, MARK_GENERAL_STRING, MARK_GRAPHIC_STRING, MARK_HIGH_OPEN, MARK_IA5_STRING, MARK_IMPLICIT, MARK_INTERSECTION, MARK_INTERVAL_TYPE, MARK_LOCAL_OR_UTC, MARK_LOW_OPEN, MARK_MIDNIGHT, MARK_NUMERIC_STRING, MARK_OPTIONAL, MARK_PARTIAL, MARK_PRESENT, MARK_PRINTABLE_STRING, MARK_PRIVATE, MARK_RECURRENCE, MARK_SE_POINT, MARK_SUCCESSORS, MARK_TELETEX_STRING, MARK_TIME, MARK_TRUE, MARK_UNION, MARK_UNIQUE, MARK_UNIVERSAL, MARK_UNIVERSAL_STRING, MARK_UTF8_STRING, MARK_VIDEOTEX_STRING, MARK_VISIBLE_STRING, MARK_YEAR}

abbrev pub mark_number : Mark → ℕ
mark_number True = MARK_TRUE
mark_number False = MARK_FALSE
mark_number Private = MARK_PRIVATE
mark_number Application = MARK_APPLICATION
mark_number Universal = MARK_UNIVERSAL
mark_number Explicit = MARK_EXPLICIT
mark_number Implicit = MARK_IMPLICIT
mark_number Automatic = MARK_AUTOMATIC
mark_number Ia5String = MARK_IA5_STRING
mark_number Utf8String = MARK_UTF8_STRING
mark_number NumericString = MARK_NUMERIC_STRING
mark_number VisibleString = MARK_VISIBLE_STRING
mark_number TeletexString = MARK_TELETEX_STRING
mark_number VideotexString = MARK_VIDEOTEX_STRING
mark_number GraphicString = MARK_GRAPHIC_STRING
mark_number GeneralString = MARK_GENERAL_STRING
mark_number UniversalString = MARK_UNIVERSAL_STRING
mark_number BmpString = MARK_BMP_STRING
mark_number PrintableString = MARK_PRINTABLE_STRING
mark_number Intersection = MARK_INTERSECTION
mark_number Union = MARK_UNION
mark_number Except = MARK_EXCEPT
mark_number Partial = MARK_PARTIAL
mark_number Present = MARK_PRESENT
mark_number Absent = MARK_ABSENT
mark_number Optional = MARK_OPTIONAL
mark_number LowOpen = MARK_LOW_OPEN
mark_number HighOpen = MARK_HIGH_OPEN
mark_number Unique = MARK_UNIQUE
mark_number Extensibility = MARK_EXTENSIBILITY
mark_number All = MARK_ALL
mark_number Successors = MARK_SUCCESSORS
mark_number Descendants = MARK_DESCENDANTS
mark_number Comma = MARK_COMMA
mark_number Basic = MARK_BASIC
mark_number Date = MARK_DATE
mark_number Year = MARK_YEAR
mark_number Time = MARK_TIME
mark_number LocalOrUtc = MARK_LOCAL_OR_UTC
mark_number IntervalType = MARK_INTERVAL_TYPE
mark_number SePoint = MARK_SE_POINT
mark_number Recurrence = MARK_RECURRENCE
mark_number Midnight = MARK_MIDNIGHT
