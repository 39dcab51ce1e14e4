-- What an actor sent in a step, over its link.
use Rattle.std.proofs.Common.{◌≡◌, ℕ, zero, suc, ◌+◌, ◌-◌, ◌≤◌, min, List, [], ◌∷◌, ◌++◌, length, take, drop, Option, Some, None}
use Rattle.std.proofs.Common.{refl, sym, ap, subst, ◌∙◌, arith, append-nil, length-drop}
use Rattle.std.specs.Prelude.{option_map, slice_get, slice_range}
use Rattle.std.specs.Option.{option_to_list}
use Rattle.std.proofs.lemmas.Grind.{flat_map-append}
use Rattle.std.proofs.lemmas.List.{take_all}
use Rattle.nop_types.specs.declared.output.Dest.{Dest}
use Rattle.udp_node.specs.declared.address.Address.{Address}
use Rattle.udp_node.specs.Ports.{datagrams_to}
use Rattle.outside.specs.declared.link.LinkCall.{LinkCall}
use Rattle.udp_node.specs.Sends.{LinkSide, Sends, last_count}
use Rattle.udp_node.proofs.RunLemmas.{lost_more}
use Rattle.udp_node.proofs.SendLemmas.{sends_then, no_sends}
use Rattle.network.specs.Network.{Sent}
use Rattle.one_box.specs.ClusterRun.{posts}

pub posts-append : (at : Address) (xs ys : List Sent) → posts at (xs ++ ys) ≡ posts at xs ++ posts at ys
posts-append at xs ys = flat_map-append (λ (s : Sent). datagrams_to at s.dest s.bytes) xs ys

-- what was counted as lost, the link counted too
pub lost_fits : (cs : List LinkCall) (a b : LinkSide) → Sends cs a b → min a.lost last_count ≤ a.losses
    → min b.lost last_count ≤ b.losses
lost_fits cs a b sends fits =
    let one : min (0 + (a.lost - 0)) last_count ≤ a.losses = omega (arith, fits) in
    let two = lost_more 0 0 cs a b one sends in
    omega (arith, two)

-- ---- one datagram

pub sent_one : (at : Address) (o : Option Sent) (dest : Dest) (bytes : List ℕ) (a b : LinkSide)
    → Some dest ≡ option_map (λ (s : Sent). s.dest) o → Some bytes ≡ option_map (λ (s : Sent). s.bytes) o
    → Sends (datagrams_to at dest bytes) a b → Sends (posts at (option_to_list o)) a b
sent_one at None dest bytes a b to is sends = absurd cc
sent_one at (Some s) dest bytes a b to is sends =
    let same_to : dest ≡ s.dest = cc in
    let same : bytes ≡ s.bytes = cc in
    let all : datagrams_to at dest bytes ≡ datagrams_to at s.dest s.bytes ++ [] =
    ap (λ (d : Dest). datagrams_to at d bytes) same_to ∙ ap (datagrams_to at s.dest) same
    ∙ sym (append-nil (datagrams_to at s.dest s.bytes)) in
    subst (λ ds. Sends ds a b) all sends

pub sent_none : (at : Address) (o : Option Sent) (a : LinkSide) → None ≡ option_map (λ (s : Sent). s.dest) o
    → Sends (posts at (option_to_list o)) a a
sent_none at None a is = no_sends a
sent_none at (Some s) a is = absurd cc

pub sent_nothing : (at : Address) (o : Option Sent) (a : LinkSide) → None ≡ option_map (λ (s : Sent). s.bytes) o
    → Sends (posts at (option_to_list o)) a a
sent_nothing at None a is = no_sends a
sent_nothing at (Some s) a is = absurd cc

-- ---- those from a place on

take_none : (k : ℕ) → (let none : List Sent = [] in take k none) ≡ []
take_none zero = refl
take_none (suc k) = refl

take_more : (xs : List Sent) (k : ℕ) → take (suc k) xs ≡ take k xs ++ option_to_list (slice_get xs k)
take_more [] k = sym (ap (λ (ys : List Sent). ys ++ []) (take_none k))
take_more (x ∷ xs) zero = refl
take_more (x ∷ xs) (suc k) = ap (λ (ys : List Sent). x ∷ ys) (take_more xs k)

get_behind : (xs : List Sent) (a k : ℕ) → slice_get (drop a xs) k ≡ slice_get xs (a + k)
get_behind xs zero k = let e : 0 + k ≡ k = omega arith in sym (ap (slice_get xs) e)
get_behind [] (suc a) k = refl
get_behind (x ∷ xs) (suc a) k =
    let e : suc a + k ≡ suc (a + k) = omega arith in
    get_behind xs a k ∙ sym (ap (slice_get (x ∷ xs)) e)

range_more : (xs : List Sent) (a i : ℕ) → a ≤ i → slice_range xs a (i + 1) ≡ slice_range xs a i ++ option_to_list (slice_get xs i)
range_more xs a i le =
    let count : (i + 1) - a ≡ suc (i - a) = omega arith in
    let place : a + (i - a) ≡ i = omega arith in
    ap (λ (k : ℕ). take k (drop a xs)) count ∙ take_more (drop a xs) (i - a)
    ∙ ap (λ (o : Option Sent). take (i - a) (drop a xs) ++ option_to_list o) (get_behind xs a (i - a) ∙ ap (slice_get xs) place)

pub none_since : (at : Address) (xs : List Sent) (count : ℕ) (a : LinkSide) → Sends (posts at (slice_range xs count count)) a a
none_since at xs count a =
    let none : count - count ≡ 0 = omega arith in
    subst (λ (k : ℕ). Sends (posts at (take k (drop count xs))) a a) (sym none) (no_sends a)

pub one_since : (at : Address) (xs : List Sent) (count i : ℕ) (a b c : LinkSide) → count ≤ i → Sends (posts at (slice_range xs count i)) a b
    → Sends (posts at (option_to_list (slice_get xs i))) b c → Sends (posts at (slice_range xs count (i + 1))) a c
one_since at xs count i a b c le one two =
    let prefix = slice_range xs count i in
    let more = option_to_list (slice_get xs i) in
    rw (range_more xs count i le, posts-append at prefix more) (sends_then (posts at prefix) (posts at more) a b c one two)

pub all_since : (at : Address) (xs : List Sent) (count i : ℕ) (a b : LinkSide) → length xs ≤ i
    → Sends (posts at (slice_range xs count i)) a b → Sends (posts at (drop count xs)) a b
all_since at xs count i a b past sends =
    let all : take (i - count) (drop count xs) ≡ drop count xs =
    take_all (i - count) (drop count xs) (omega (arith, length-drop count xs)) in
    subst (λ (ys : List Sent). Sends (posts at ys) a b) all sends
