-- The names of written fields, and whether members may do without theirs.
use Rattle.std.specs.Prelude.{ℕ, Bool, ◌||◌, List, map}
use Rattle.std.specs.List.{list_all}
use Rattle.asn_meaning.specs.Meaning.{Member}
use Rattle.asn_meaning.specs.Members.{may_be_absent}
use Rattle.asn_meaning.specs.ValueTrees.{is_among}
use Rattle.asn_meaning.specs.Written.{NamedValues}

abbrev pub names_of : NamedValues → List (List ℕ)
names_of fields = map (λ f. f.0) fields

-- whether the member's name is one of these, or the member may be absent
abbrev pub stands_or_lacks : List (List ℕ) → Member → Bool
stands_or_lacks names m = is_among names m.written.name || may_be_absent m

abbrev pub all_stand : List (List ℕ) → List Member → Bool
all_stand names ms = list_all (stands_or_lacks names) ms
