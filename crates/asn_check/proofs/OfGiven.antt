-- What linking gives of a reading, from what it gives of the definitions that stand.
use Rattle.std.proofs.Common.{◌≡◌, ℕ, List, Bool, Bor, map, sym, ◌∙◌, subst}
use Rattle.std.proofs.lemmas.Simd.{map-map}
use Rattle.asn_tree.specs.declared.definitions.ToplevelDefinition.{ToplevelDefinition}
use Rattle.asn_check.specs.Linked.{AreLinkedOf}
use Rattle.asn_link.specs.Linked.{IsLinking, is_told}
use Rattle.asn_names.specs.Definitions.{Definitions, Module}
use Rattle.asn_names.specs.Given.{given_definitions}
use Rattle.asn_names_index.specs.Definitions.{name_of}

pub linked_given : (reading : List Module) (names : List (List ℕ)) (withheld : List Bool) (defs : Definitions) (ones : List (Bor ToplevelDefinition)) (told : List Bool) (definitions : Definitions) (made closed : List Bool) →
    defs ≡ given_definitions reading → told ≡ map (λ d. is_told names withheld (name_of d.now)) ones → IsLinking defs (map (λ d. d.now) ones) told definitions made closed →
    AreLinkedOf reading names withheld definitions made closed
linked_given reading names withheld defs ones told definitions made closed same so l =
    let by_now : told ≡ map (λ d. is_told names withheld (name_of d)) (map (λ d. d.now) ones) = so ∙ sym (map-map (λ d. is_told names withheld (name_of d)) (λ d. d.now) ones) in
    record {
      standing = map (λ d. d.now) ones;
      linking =
          subst (λ ds. IsLinking ds (map (λ d. d.now) ones) (map (λ d. is_told names withheld (name_of d)) (map (λ d. d.now) ones)) definitions made closed) same
          (subst (λ ws. IsLinking defs (map (λ d. d.now) ones) ws definitions made closed) by_now l);
    }
