-- Names and faults of definitions of basic form, as they stand in the relation of needs.
use Rattle.std.proofs.Common.{◌≡◌, ℕ, List, sym, subst}
use Rattle.std.specs.List.{Contains}
use Rattle.std.proofs.lemmas.List.Elements.{All-contains}
use Rattle.asn_tree.specs.declared.definitions.ToplevelDefinition.TheVariants.{TypeDef, Value, Information}
use Rattle.asn_needs.specs.Occurrences.{OccursIn, names_at}
use Rattle.asn_needs.specs.Sites.{seen, ToDefinition}
use Rattle.asn_names.specs.Laws.{NamesOccur}
use Rattle.asn_meaning_unchanged.specs.References.{names_in, names_of}
use Rattle.asn_names.specs.Needed.{type_occurrence}
use Rattle.asn_names.proofs.Places.{IsNamed, name_occurs, place_names}

pub names_occur : NamesOccur
unfolding names_of
names_occur defs n name (TypeDef d) is basic o = (to, from)
  where
    to : OccursIn (seen defs n) (ToDefinition name) o → (x : List ℕ) × (o ≡ type_occurrence x) × Contains (names_of (TypeDef d)) x
    to h = All-contains (IsNamed (seen defs n) (names_in d.ty)) (names_at (seen defs n) h.at h.at.form) o (place_names defs n name d is basic.0 basic.1 h.stands) h.occurs

    from : (x : List ℕ) × (o ≡ type_occurrence x) × Contains (names_of (TypeDef d)) x → OccursIn (seen defs n) (ToDefinition name) o
    from (x, e, c) = subst (OccursIn (seen defs n) (ToDefinition name)) (sym e) (name_occurs defs n name d is basic.0 basic.1 x c)
names_occur defs n name (Value d) is basic o = absurd basic
names_occur defs n name (Information d) is basic o = absurd basic
