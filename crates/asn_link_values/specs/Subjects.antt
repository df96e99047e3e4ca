-- The subject of instances that one of the code stands for.
use Rattle.asn_meaning_heads.specs.Places.{shown_place}
use Rattle.asn_link_instance.specs.Subjects.{Subject, OnValues, OnCharacters}
use Rattle.asn_link_values.specs.declared.subjects.Subject.{Subject as LentSubject}
use Rattle.asn_link_values.specs.declared.subjects.Subject.TheVariants as subject

abbrev pub shown_subject : LentSubject → Subject
shown_subject (subject.OnValues head) = OnValues (shown_place head.now)
shown_subject subject.OnCharacters = OnCharacters
