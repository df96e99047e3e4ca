-- An instance means what the type does in its scope, and is in plain form.
use Rattle.std.proofs.Common.{inl, refl, sym, ◌∙◌}
use Rattle.asn_link_instance.specs.Closed.{every_name}
use Rattle.asn_link_instance.specs.Laws.{InstancesArePlain, LiteralsKept, LiteralsPlain, Substitution}
use Rattle.asn_link_instance.specs.Literals.{literals}
use Rattle.asn_link_passes.specs.Promises.{InstancesPromise}

pub promise : Substitution → LiteralsKept → LiteralsPlain → InstancesArePlain → InstancesPromise
promise same kept plain are_plain defs steps levels down scope ty made is = record {
  instance_of = is;
  meaning_kept = λ uy e t.
      same (literals every_name) defs defs steps levels (inl refl) (kept every_name defs defs _).0 (kept every_name defs defs _).1 down scope ty uy t (sym is ∙ e);
  is_plain = λ uy e. are_plain (literals every_name) defs defs steps levels (inl refl) (kept every_name defs defs _).0 (plain every_name defs defs _) down scope ty uy (sym is ∙ e);
}
