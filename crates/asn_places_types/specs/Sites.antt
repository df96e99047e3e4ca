-- The sites of asn_needs that those of the code stand for.
use Rattle.std.specs.Prelude.{List, map}
use Rattle.asn_meaning_heads.specs.Places.{shown_place}
use Rattle.asn_meaning_heads.specs.Scopes.{shown}
use Rattle.asn_needs.specs.Sites.{LooseList, Site, beside}
use Rattle.asn_places_types.specs.declared.surroundings.Around.{Around}
use Rattle.asn_places_types.specs.declared.sites.Site.{Site as LentSite}
use Rattle.asn_places_types.specs.Forms.{shown_form}

-- what surrounds a place, as a site of a form that does not count
abbrev pub shown_around : Around → Site
shown_around x = record { form = LooseList; scope = shown x.scope; nest = map (λ name. name.now) x.nest; is_opaque = x.is_opaque; way = map shown_place x.way }

abbrev pub shown_site : LentSite → Site
shown_site s = beside (shown_around s.around.value) (shown_form s.form)

abbrev pub shown_sites : List LentSite → List Site
shown_sites ss = map shown_site ss
