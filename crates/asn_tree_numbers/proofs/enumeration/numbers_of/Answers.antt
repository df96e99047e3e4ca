use Rattle.std.proofs.Common.{rules, ◌≡◌, ◌+◌, ◌∷◌, ◌++◌, [], None, SFits, get_or, drop, drop-cons, add-one, subst, List, ℤ, Option}
use Rattle.std.specs.Int.{w128}
use Rattle.std.proofs.lemmas.Int.{to_z-of_z}
use Rattle.std.proofs.lemmas.List.{drop_all}
use Rattle.asn_tree_numbers.specs.inner.Counting.{from_behind}
use Rattle.asn_tree_numbers.proofs.Counting.{Sofar, stepped, stopped, finished}
use Rattle.asn_tree_numbers.proofs.enumeration.numbers_of.Goals as goal

pub returns-in_default-clause-numbers : goal.returns-in_default-clause-numbers
returns-in_default-clause-numbers c =
    let items = c.args.items.now in
    let i = c.loop-item.item-index in
    let e : drop i items ≡ get_or items i None ∷ drop (i + 1) items = rw add-one (drop-cons items i None c.loop-item-test.true) in
    let s = subst (λ (left : List (Option ℤ)). Sofar c.args.part c.args.taken.now.numbers items left c.loop-item.numbers c.loop-item.from) e c.loop-item.invariant in
    stopped c.args.part c.args.taken.now.numbers items (get_or items i None) (drop (i + 1) items) c.loop-item.numbers c.loop-item.from s c.in_default.ensures

pub loop-item-preserved : goal.loop-item-preserved
loop-item-preserved c =
    let items = c.args.items.now in
    let i = c.loop-item.item-index in
    let n = c.in-Some.number in
    let e : drop i items ≡ get_or items i None ∷ drop (i + 1) items = rw add-one (drop-cons items i None c.loop-item-test.true) in
    let s = subst (λ (left : List (Option ℤ)). Sofar c.args.part c.args.taken.now.numbers items left c.loop-item.numbers c.loop-item.from) e c.loop-item.invariant in
    let fits : SFits w128 n = search rules in
    let a : c.add.new.self ≡ c.loop-item.numbers ++ n ∷ [] = rw (to_z-of_z w128 n fits) at c.in_ok-add.ensures.ok in
    let b : c.from_behind-from.result ≡ from_behind c.args.part c.loop-item.from (get_or items i None) n = rw (to_z-of_z w128 n fits) at c.from_behind-from.ensures in
    rw (a, b) (stepped c.args.part c.args.taken.now.numbers items (get_or items i None) (drop (i + 1) items) c.loop-item.numbers c.loop-item.from n s c.in-Some.ensures fits)

pub returns-clause-numbers : goal.returns-clause-numbers
returns-clause-numbers c =
    finished c.args.part c.args.taken.now.numbers c.args.items.now _ c.loop-item.numbers c.loop-item.from c.loop-item.invariant (drop_all c.loop-item.item-index c.args.items.now c.loop-item-test.false)

pub returns-clause-fit : goal.returns-clause-fit
returns-clause-fit c = c.loop-item.invariant.fit
