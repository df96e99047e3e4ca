-- The scopes that the numbers of bindings stand for.
use Rattle.std.specs.Prelude.{ℕ, nat_lt, if◌then◌else◌, ◌≤◌, ◌≡◌, List, [], ◌∷◌, ◌++◌, Some, get_or, length}
use Rattle.asn_names_index.specs.declared.bindings.Bindings.{Bindings}
use Rattle.asn_names_index.specs.declared.bindings.Bound.{Bound as LentBound}
use Rattle.asn_names_index.specs.declared.bindings.Level.{Level}
use Rattle.asn_names_index.specs.Dummies.{binding}
use Rattle.asn_meaning.specs.Scopes.{Bound, Scope, Empty}

-- what a template with its arguments binds, where these are the scopes before it
abbrev pub made : List Scope → Level → Scope
made scopes level = binding (get_or scopes level.scope Empty) level.template.now.parameters level.arguments.now

-- these scopes, and those of the templates entered behind them
abbrev pub scopes_behind : List Scope → List Level → List Scope
scopes_behind scopes [] = scopes
scopes_behind scopes (level ∷ levels) = scopes_behind (scopes ++ made scopes level ∷ []) levels

-- The scope that a number stands for: 0 binds nothing, and a number that no template was entered for neither.
unfoldable pub shown : Bindings → ℕ → Scope
shown bindings number = get_or (scopes_behind (Empty ∷ []) bindings.levels) number Empty

-- whether the number is 0 or that of a template that was entered
abbrev pub Known : Bindings → ℕ → Type 0
Known bindings number = number ≤ length bindings.levels

-- The scopes that there were stay, and stay as they were.
pub record Keeps (old new : Bindings) : Type 0 where
  pub known : (number : ℕ) → Known old number → Known new number
  pub same : (number : ℕ) → Known old number → shown new number ≡ shown old number

abbrev pub shown_bound : Bindings → LentBound → Bound
shown_bound bindings b = record { governor = b.governor.now; argument = Some (record { tree = b.argument.now; scope = shown bindings b.scope }) }

-- the number, where it is below the bound; else 0
abbrev pub below : ℕ → ℕ → ℕ
below number bound = if nat_lt number bound then number else 0
