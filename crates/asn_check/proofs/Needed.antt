-- The warnings that are due are those that stand in the relation of needs and faults.
use Rattle.std.proofs.Common.{◌≡◌, ℕ, List, true, Option, Some, None, refl, sym, ap, ◌∙◌, subst}
use Rattle.std.specs.Prelude.{is_some}
use Rattle.asn_tree.specs.declared.definitions.ToplevelDefinition.{ToplevelDefinition}
use Rattle.asn_names.specs.declared.faults.Fault.{Fault as Warned}
use Rattle.asn_names.specs.declared.faults.Fault.TheVariants as warned
use Rattle.asn_names.specs.Definitions.{Definitions, last_named}
use Rattle.asn_names.specs.Laws.{FaultsStand}
use Rattle.asn_names.specs.Needed.{AreJudged, stands_as}
use Rattle.asn_check.specs.Needed.{IsWarned, for_fault, for_several, warning_of, DueAreWarned, WarnsOfFaults}
use Rattle.asn_check.specs.Warnings.{AreWarnings, IsDue, Linkedness, Warning, of_its_fault, of_several, warning_for}

told_alike : (name : List ℕ) (f : Warned) → warning_of name (stands_as f) ≡ warning_for name f
told_alike name warned.Argument = refl
told_alike name warned.MissingDependency = refl
told_alike name warned.NotYetInplemented = refl

there : (o : Option ToplevelDefinition) → is_some o ≡ true → (d : ToplevelDefinition) × (o ≡ Some d)
there None e = absurd cc
there (Some d) e = (d, refl)

module _ (stand : FaultsStand) (defs : Definitions) (linked : Linkedness) (judged : AreJudged defs) where
  to : {w : Warning} → IsDue defs linked w → IsWarned defs w
  to (of_its_fault name d f is e) =
      let fault = (stand defs judged.basic name d (linked name) is (judged.unchanged name d is) (judged.acyclic name d is) (judged.ordered name d is) (stands_as f)).1 (f, e, refl) in
      subst (IsWarned defs) (told_alike name f) (for_fault name (stands_as f) (record { defined = ap is_some is; fault = fault }))
  to (of_several name is) = for_several name is

  from : {w : Warning} → IsWarned defs w → IsDue defs linked w
  from (for_fault name k on) =
      let d = there (last_named defs name) on.defined in
      let found = (stand defs judged.basic name d.0 (linked name) d.1 (judged.unchanged name d.0 d.1) (judged.acyclic name d.0 d.1) (judged.ordered name d.0 d.1) k).0 on.fault in
      subst (IsDue defs linked) (sym (ap (warning_of name) found.2 ∙ told_alike name found.0)) (of_its_fault name d.0 found.0 d.1 found.1)
  from (for_several name is) = of_several name is

pub due_are_warned : FaultsStand → DueAreWarned
due_are_warned stand defs linked judged w = (λ h. to stand defs linked judged h, λ h. from stand defs linked judged h)

-- warnings that are exactly those that are due are those that stand
pub warns_of_faults : DueAreWarned → (defs : Definitions) (linked : Linkedness) (ws : List Warning) → AreWarnings defs linked ws → WarnsOfFaults defs ws
warns_of_faults law defs linked ws are judged w = (λ c. (law defs linked judged w).0 ((are.exact w).0 c), λ h. (are.exact w).1 ((law defs linked judged w).1 h))
