use Rattle.std.proofs.Common.{◌≡◌, drop}
use Rattle.asn_meaning_heads.proofs.Giving.{named_in}
use Rattle.asn_meaning_heads.proofs.objects.find_given.Given as goal

abbrev pub invariant-loop-field : goal.invariant-loop-field
invariant-loop-field l = named_in (drop l.field-index l.fields) l.name ≡ named_in l.fields l.name
