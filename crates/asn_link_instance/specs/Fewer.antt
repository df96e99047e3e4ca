-- A choice by which fewer names may stay.
use Rattle.std.specs.Prelude.{◌≡◌, ℕ, true, List, Option}
use Rattle.asn_link_instance.specs.Staying.{Names}
use Rattle.asn_link_instance.specs.Subjects.{Choices}

-- the same choice with other names
abbrev pub with_names : Choices → Names → Choices
with_names C keeps = record C { keeps = keeps }

abbrev pub AreFewer : Names → Choices → Type 0
AreFewer fewer C = (object : Option (List ℕ)) (name : List ℕ) → fewer object name ≡ true → C.keeps object name ≡ true
