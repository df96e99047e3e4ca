-- The linked answer of a reading, put together.
use Rattle.std.proofs.Common.{◌≡◌, ℕ, List, Bool, map, sym, ap, subst, ◌∙◌}
use Rattle.std.specs.Prelude.{is_some}
use Rattle.asn_check.specs.declared.linked.Linked.{Linked}
use Rattle.asn_check.specs.Judged.{AreJudgements, AreWithheld, is_withheld}
use Rattle.asn_check.specs.KeptMeaning.{LinkingKeepsMeaning}
use Rattle.asn_check.specs.Linked.{AreLinkedOf, IsLinkedOf}
use Rattle.asn_check.specs.Needed.{DueAreWarned}
use Rattle.asn_check.specs.Warnings.{AreWarnings, said_by}
use Rattle.asn_check.proofs.Judged.{are_withheld}
use Rattle.asn_check.proofs.Needed.{warns_of_faults}
use Rattle.asn_link.specs.Linked.{is_linked, is_told, Linking}
use Rattle.asn_names.specs.declared.faults.Judgement.{Judgement}
use Rattle.asn_names.specs.Definitions.{Definitions, Module, definitions_of}
use Rattle.asn_names.specs.Given.{given_definitions}
use Rattle.asn_names_index.specs.Definitions.{IsStanding, name_of}

-- `defs` are the definitions of the reading, of which `read` stand, and of these `js` is told
module _ (reading : List Module) (defs read : Definitions) (js : List Judgement) (same : defs ≡ definitions_of reading) (stand : IsStanding defs read)
    (judged : AreJudgements defs (map name_of read) js) (names : List (List ℕ)) (withheld : List Bool) (named : names ≡ map name_of read) (told : withheld ≡ map is_withheld js)
    (definitions : Definitions) (made closed : List Bool) (given : AreLinkedOf reading names withheld definitions made closed) where
  abbrev linking : Linking (given_definitions reading)
  linking = given.linking.linking

  which_withheld : AreWithheld (definitions_of reading) linking.standing linking.withheld
  which_withheld =
      let by_names : AreWithheld defs given.standing (map (λ d. is_told names withheld (name_of d)) given.standing) =
      subst (λ ns. AreWithheld defs given.standing (map (λ d. is_told ns withheld (name_of d)) given.standing)) (sym named)
      (subst (λ ws. AreWithheld defs given.standing (map (λ d. is_told (map name_of read) ws (name_of d)) given.standing)) (sym told) (are_withheld defs read js stand judged given.standing)) in
      subst (λ ds. AreWithheld ds linking.standing linking.withheld) same
      (subst (λ ds. AreWithheld defs ds linking.withheld) (sym given.linking.stands) (subst (AreWithheld defs given.standing) (sym given.linking.held) by_names))

  pub answered : LinkingKeepsMeaning → DueAreWarned → (slice : Definitions) (flags : List Bool) (answer : Linked) → slice ≡ definitions → flags ≡ made → answer.definitions ≡ definitions →
      answer.modules ≡ map (λ m. m.0) reading → AreWarnings defs (is_told (map name_of slice) flags) (map said_by answer.warnings) → IsLinkedOf reading answer
  answered keeps due slice flags answer ones told_so is headers warned =
      let listed : map name_of slice ≡ map name_of linking.standing = ap (map name_of) ones ∙ given.linking.named in
      let flagged : flags ≡ map is_some linking.made = told_so ∙ given.linking.made_so in
      let linked : is_told (map name_of slice) flags ≡ is_linked linking = ap (λ ns. is_told ns flags) listed ∙ ap (is_told (map name_of linking.standing)) flagged in
      let warnings : AreWarnings (definitions_of reading) (is_linked linking) (map said_by answer.warnings) =
      subst (λ ds. AreWarnings ds (is_linked linking) (map said_by answer.warnings)) same (subst (λ f. AreWarnings defs f (map said_by answer.warnings)) linked warned) in
      record {
        modules = headers;
        linking = linking;
        withheld = which_withheld;
        definitions = is ∙ given.linking.linked;
        warnings = warnings;
        faults = warns_of_faults due (definitions_of reading) (is_linked linking) (map said_by answer.warnings) warnings;
        meaning = keeps reading linking;
      }
