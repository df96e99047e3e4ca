-- Where types of the code lead.
use Rattle.asn_meaning_heads.specs.declared.leads.Lead.{Lead as LentLead}
use Rattle.asn_meaning_heads.specs.declared.leads.Lead.TheVariants as lent
use Rattle.asn_meaning_heads.specs.Places.{shown_target}
use Rattle.std.specs.Prelude.{Option, Some}
use Rattle.asn_meaning.specs.Layers.{OptionLayer}
use Rattle.asn_meaning.specs.Names.{Lead, IsHead, LeadsTo, IsLost}
use Rattle.asn_meaning.specs.Scopes.{Scope, Target}

abbrev pub shown_lead : LentLead → Lead
shown_lead lent.Head = IsHead
shown_lead (lent.Target x) = LeadsTo (shown_target x)
shown_lead lent.Lost = IsLost

-- an option's type with the option's constraints
abbrev pub option_target : Scope → OptionLayer → Option Target
option_target scope o = Some (record { place = record { scope = scope; ty = o.ty }; constraints = o.constraints })
