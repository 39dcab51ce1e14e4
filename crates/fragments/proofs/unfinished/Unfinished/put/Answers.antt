use Rattle.std.proofs.Common.{◌≡◌, ◌+◌, ◌-◌, ◌++◌, List, ℕ, Option, Some, true, length, set, refl, sym, ap, subst, ◌∙◌, arith}
use Rattle.nop_types.specs.declared.limits.TheConstants.{FRAGMENT_BYTES}
use Rattle.fragments.specs.Parts.{Partial, is_open}
use Rattle.fragments.specs.Prefix.{parts_of}
use Rattle.fragments.proofs.Prefixes.{put_next, put_later, open_past, split_missing, split_within, split_next, split_later, split_same}
use Rattle.fragments.proofs.unfinished.Unfinished.put.Goals as goal

pub overflow_sub-self : goal.overflow_sub-self
overflow_sub-self c =
    let u = c.self.inside in
    split_missing u.prefix.items u.filled c.args.index u.missing u.later.items c.self.invariant
    (subst (λ (b : Partial). is_open b.parts c.args.index ≡ true) (sym c.self.view_is) c.requires)

pub overflow_sub-self-2 : goal.overflow_sub-self-2
overflow_sub-self-2 c =
    let u = c.self.inside in
    split_missing u.prefix.items u.filled c.args.index u.missing u.later.items c.self.invariant
    (subst (λ (b : Partial). is_open b.parts c.args.index ≡ true) (sym c.self.view_is) c.requires)

pub index_mut-requires : goal.index_mut-requires
index_mut-requires c =
    let u = c.self.inside in
    let k = u.later.ok in
    let w =
    split_within u.prefix.items u.filled c.args.index u.missing u.later.items c.self.invariant
    (subst (λ (b : Partial). is_open b.parts c.args.index ≡ true) (sym c.self.view_is) c.requires) in
    omega arith

pub gather-self-inside-requires-clause-within : goal.gather-self-inside-requires-clause-within
gather-self-inside-requires-clause-within c =
    let u = c.self.inside in
    let p = c.args.payload.now in
    let free : is_open (parts_of u.prefix.items u.filled u.later.items) u.filled ≡ true =
    subst (λ (n : ℕ). is_open (parts_of u.prefix.items u.filled u.later.items) n ≡ true) c.if-index-self.true
    (subst (λ (b : Partial). is_open b.parts c.args.index ≡ true) (sym c.self.view_is) c.requires) in
    let lt = split_within u.prefix.items u.filled u.filled u.missing u.later.items c.self.invariant free in
    omega (arith, lt)

pub invariant_of-self-then-as_slice-eq-FRAGMENT_BYTES : goal.invariant_of-self-then-as_slice-eq-FRAGMENT_BYTES
invariant_of-self-then-as_slice-eq-FRAGMENT_BYTES c =
    let u = c.self.inside in
    let p = c.args.payload.now in
    let free : is_open (parts_of u.prefix.items u.filled u.later.items) u.filled ≡ true =
    subst (λ (n : ℕ). is_open (parts_of u.prefix.items u.filled u.later.items) n ≡ true) c.if-index-self.true
    (subst (λ (b : Partial). is_open b.parts c.args.index ≡ true) (sym c.self.view_is) c.requires) in
    let len : length p ≡ FRAGMENT_BYTES = rw (← c.as_slice.ensures) c.if-as_slice-eq-FRAGMENT_BYTES.true in
    let longer : c.extend_from_slice.new.self.items ≡ u.prefix.items ++ p =
    rw (c.in_ok-extend_from_slice.ensures.items, c.as_slice-then-as_slice-eq-FRAGMENT_BYTES.ensures) refl in
    let next = split_next u.prefix.items p u.filled u.missing u.later.items c.self.invariant free len in
    split_same (u.prefix.items ++ p) c.gather-self-inside.new.prefix.items (u.filled + 1) c.gather-self-inside.result (u.missing - 1)
    u.later.items c.gather-self-inside.new.later.items next (rw longer at c.gather-self-inside.ensures.same)
    c.gather-self-inside.ensures.size c.gather-self-inside.ensures.within

pub returns-then-as_slice-eq-FRAGMENT_BYTES-clause-ok : goal.returns-then-as_slice-eq-FRAGMENT_BYTES-clause-ok
returns-then-as_slice-eq-FRAGMENT_BYTES-clause-ok c =
    let u = c.self.inside in
    let p = c.args.payload.now in
    let free : is_open (parts_of u.prefix.items u.filled u.later.items) u.filled ≡ true =
    subst (λ (n : ℕ). is_open (parts_of u.prefix.items u.filled u.later.items) n ≡ true) c.if-index-self.true
    (subst (λ (b : Partial). is_open b.parts c.args.index ≡ true) (sym c.self.view_is) c.requires) in
    let len : length p ≡ FRAGMENT_BYTES = rw (← c.as_slice.ensures) c.if-as_slice-eq-FRAGMENT_BYTES.true in
    let longer : c.extend_from_slice.new.self.items ≡ u.prefix.items ++ p =
    rw (c.in_ok-extend_from_slice.ensures.items, c.as_slice-then-as_slice-eq-FRAGMENT_BYTES.ensures) refl in
    let same : parts_of c.gather-self-inside.new.prefix.items c.gather-self-inside.result c.gather-self-inside.new.later.items
    ≡ parts_of (u.prefix.items ++ p) (u.filled + 1) u.later.items = rw longer at c.gather-self-inside.ensures.same in
    let made : parts_of (u.prefix.items ++ p) (u.filled + 1) u.later.items
    ≡ set (parts_of u.prefix.items u.filled u.later.items) c.args.index (Some p) =
    rw c.if-index-self.true (put_next u.prefix.items p u.filled u.later.items c.self.invariant.size len
    (split_within u.prefix.items u.filled u.filled u.missing u.later.items c.self.invariant free)) in
    rw (← c.self.view_is) (ap (λ (ps : List (Option (List ℕ))). record { number = u.number; parts = ps }) (same ∙ made))

pub invariant_of-self-2 : goal.invariant_of-self-2
invariant_of-self-2 c =
    let u = c.self.inside in
    split_later u.prefix.items c.in_ok-payload.payload u.filled c.args.index u.missing u.later.items c.self.invariant
    (subst (λ (b : Partial). is_open b.parts c.args.index ≡ true) (sym c.self.view_is) c.requires)

pub returns-clause-ok : goal.returns-clause-ok
returns-clause-ok c =
    let u = c.self.inside in
    let free : is_open (parts_of u.prefix.items u.filled u.later.items) c.args.index ≡ true =
    subst (λ (b : Partial). is_open b.parts c.args.index ≡ true) (sym c.self.view_is) c.requires in
    let made : parts_of u.prefix.items u.filled (set u.later.items c.args.index (Some c.in_ok-payload.payload))
    ≡ set (parts_of u.prefix.items u.filled u.later.items) c.args.index (Some c.args.payload.now) =
    put_later u.prefix.items u.filled c.args.index u.later.items (Some c.in_ok-payload.payload)
    (open_past u.prefix.items u.filled c.args.index u.later.items free)
    ∙ ap (λ (b : List ℕ). set (parts_of u.prefix.items u.filled u.later.items) c.args.index (Some b)) c.in_ok-payload.ensures in
    rw (← c.self.view_is) (ap (λ (ps : List (Option (List ℕ))). record { number = u.number; parts = ps }) made)
