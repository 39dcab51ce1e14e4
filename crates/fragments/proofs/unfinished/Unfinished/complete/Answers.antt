use Rattle.std.proofs.Common.{◌≡◌, ◌-◌, ◌++◌, Some, true, drop, set, refl, sym, subst, ◌∙◌, arith}
use Rattle.std.proofs.lemmas.List.{length-drop}
use Rattle.fragments.specs.Parts.{Partial, is_open, whole}
use Rattle.fragments.specs.Prefix.{parts_of}
use Rattle.fragments.proofs.Prefixes.{open_past, split_within, whole_complete}
use Rattle.fragments.proofs.unfinished.Unfinished.complete.Goals as goal

pub overflow_sub-index : goal.overflow_sub-index
overflow_sub-index c =
    let u = c.self.inside in
    open_past u.prefix.items u.filled c.args.index u.later.items
    (subst (λ (b : Partial). is_open b.parts c.args.index ≡ true) (sym c.self.view_is) c.requires)

pub append_whole-requires : goal.append_whole-requires
append_whole-requires c =
    let u = c.self.inside in
    let free : is_open (parts_of u.prefix.items u.filled u.later.items) c.args.index ≡ true =
    subst (λ (b : Partial). is_open b.parts c.args.index ≡ true) (sym c.self.view_is) c.requires in
    let past = open_past u.prefix.items u.filled c.args.index u.later.items free in
    let lt = split_within u.prefix.items u.filled c.args.index u.missing u.later.items c.self.invariant free in
    rw (c.split_at.ensures.back, c.deref.ensures.value) (omega (arith, length-drop u.filled u.later.items, past, lt))

pub returns-clause-ok : goal.returns-clause-ok
returns-clause-ok c =
    let u = c.self.inside in
    let p = c.args.payload.now in
    let free : is_open (parts_of u.prefix.items u.filled u.later.items) c.args.index ≡ true =
    subst (λ (b : Partial). is_open b.parts c.args.index ≡ true) (sym c.self.view_is) c.requires in
    let past = open_past u.prefix.items u.filled c.args.index u.later.items free in
    let end : c.from_vec.result ≡ u.prefix.items ++ whole (set (drop u.filled u.later.items) (c.args.index - u.filled) (Some p)) =
    rw (c.from_vec.ensures, c.replace-bytes.ensures.value, c.in_ok-append_whole.ensures.ok, c.split_at.ensures.back, c.deref.ensures.value)
    refl in
    rw (← c.self.view_is) (end ∙ sym (whole_complete u.prefix.items u.filled c.args.index u.later.items (Some p) c.self.invariant.size past))
