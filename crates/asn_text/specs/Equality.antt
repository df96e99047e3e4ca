-- The laws of `==`, which its traits ask for: a comparison of the parts by each of their fields is an equivalence.
use Rattle.std.specs.Cmp.{IsEquivalence, bool_eq_equiv}
use Rattle.std.specs.Cmp.Lexicographic.{on_texts_equal}
use Rattle.std.proofs.lemmas.Cmp.{and_equiv, on_equiv, nat_eq_equiv}
use Rattle.asn_text.specs.Input.{part_of, input_eq}
use Rattle.asn_text.specs.Part.{part_eq}
use Rattle.asn_text.specs.Report.{told_by, told_by_kind, told_by_error, told_eq, report_eq, kind_eq, error_eq}

part_eq_equivalence : IsEquivalence part_eq
part_eq_equivalence =
    and_equiv
    (and_equiv
    (and_equiv
    (and_equiv (on_texts_equal (λ part. part.source)) (on_equiv (λ part. part.start) nat_eq_equiv))
    (on_equiv (λ part. part.end) nat_eq_equiv))
    (on_equiv (λ part. part.context_line) nat_eq_equiv))
    (on_equiv (λ part. part.context_start) nat_eq_equiv)

pub input_eq_equivalence : IsEquivalence input_eq
input_eq_equivalence = on_equiv part_of part_eq_equivalence

told_eq_equivalence : IsEquivalence told_eq
told_eq_equivalence =
    and_equiv
    (and_equiv
    (and_equiv
    (and_equiv
    (and_equiv
    (and_equiv (on_equiv (λ told. told.context_start_line) nat_eq_equiv) (on_equiv (λ told. told.context_start_offset) nat_eq_equiv))
    (on_equiv (λ told. told.line) nat_eq_equiv))
    (on_equiv (λ told. told.offset) nat_eq_equiv))
    (on_equiv (λ told. told.column) nat_eq_equiv))
    (on_texts_equal (λ told. told.reason)))
    (on_equiv (λ told. told.unexpected_eof) bool_eq_equiv)

pub report_eq_equivalence : IsEquivalence report_eq
report_eq_equivalence = on_equiv told_by told_eq_equivalence

pub kind_eq_equivalence : IsEquivalence kind_eq
kind_eq_equivalence = on_equiv told_by_kind told_eq_equivalence

pub error_eq_equivalence : IsEquivalence error_eq
error_eq_equivalence = on_equiv told_by_error told_eq_equivalence
