-- What a merge has in a slot, by who sent which log.
use Rattle.std.proofs.lemmas.List.FromFn.{length-map-range_with_len}
use Rattle.std.proofs.Common.{subst, ◌≡◌, ℕ, zero, suc, ◌≤◌, Bool, true, false, List, [], ◌∷◌, length, max, map, Some, None, refl, sym, ap}
use Rattle.std.proofs.Common.{◌∙◌, arith}
use Rattle.std.specs.Prelude.{◌↔◌, nat_le, slice_get}
use Rattle.std.proofs.lemmas.Bool.Decides.{nat_tests}
use Rattle.nop_types.specs.declared.request.Request.{Request}
use Rattle.nop_types.specs.declared.request.Entry.{Entry}
use Rattle.nop_types.specs.declared.request.Entry.TheVariants.{NoOp, Req}
use Rattle.nop_types.specs.PlainChanges.{Change}
use Rattle.nop_types.specs.Lists.{Has, IsGreatest, slot_of}
use Rattle.log_merge.specs.Merge.{Choice, chosen, entry_of, longest, merge}
use Rattle.log_merge.specs.Merged.{HasInSlot, HasNoOp, HasLowest, HasDistinctSenders, HaveSamePlainLogs}
use Rattle.log_merge.proofs.Winners.{WinsBy, Winner, Nobody, Somebody, winner}
use Rattle.log_merge.proofs.Slots.{same_slots}

only_noop : (x : Entry) (s t : ℕ) → WinsBy x NoOp s t → x ≡ NoOp
only_noop NoOp s t h = refl
only_noop (Req q) s t h = elim h [ ]

pub noop_in_merge : (cs : List Change) (k : ℕ) → (slot_of (merge cs) k ≡ Some NoOp) ↔ HasNoOp cs k
noop_in_merge cs k = at (winner cs k)
  where
    at : Winner cs k → (slot_of (merge cs) k ≡ Some NoOp) ↔ HasNoOp cs k
    at (Nobody none nobody) = (λ e. absurd cc, λ h. absurd (nobody h.0 NoOp h.1))
    at (Somebody w some has wins) = (
      λ e. let is : w.entry ≡ NoOp = cc in (w.sender, subst (HasInSlot cs k w.sender) is has),
      λ h. some ∙ ap (λ (x : Entry). Some x) (only_noop w.entry w.sender h.0 (wins h.0 NoOp h.1)),
    )

lowest_is : (cs : List Change) (k : ℕ) (r : Request) (s : ℕ) → HasInSlot cs k s (Req r)
    → ((t : ℕ) (x : Entry) → HasInSlot cs k t x → WinsBy (Req r) x s t) → HasLowest cs k r
lowest_is cs k r s has wins = record {
  no_noop = λ h. elim (wins h.0 NoOp h.1) [ ];
  sender = s;
  request = has;
  lowest = λ t x h. at t x (wins t x h);
}
  where
    at : (t : ℕ) (x : Entry) → WinsBy (Req r) x s t → s ≤ t
    at t NoOp g = elim g [ ]
    at t (Req q) g = g

same_entry : (cs : List Change) (k s t : ℕ) (x y : Entry) → HasDistinctSenders cs → HasInSlot cs k s x → HasInSlot cs k t y → s ≡ t → x ≡ y
same_entry cs k s t x y distinct h g e =
    let place =
    distinct h.source.member.0 g.source.member.0 h.source.change g.source.change h.source.member.1 g.source.member.1
    (h.source.sender ∙ e ∙ sym g.source.sender) in
    let left = h.source.member.1 in
    let right = g.source.member.1 in
    let change : h.source.change ≡ g.source.change = cc in
    let log : h.log ≡ g.log = sym h.source.log ∙ ap (λ (c : Change). c.log) change ∙ g.source.log in
    let entry : Some x ≡ Some y = sym h.entry ∙ ap (λ (l : List Entry). slot_of l k) log ∙ g.entry in
    cc

lowest_wins : (cs : List Change) (k : ℕ) (r : Request) (w : Choice) → HasDistinctSenders cs → HasLowest cs k r
    → HasInSlot cs k w.sender w.entry → ((s : ℕ) (x : Entry) → HasInSlot cs k s x → WinsBy w.entry x w.sender s) → w.entry ≡ Req r
lowest_wins cs k r w distinct h has wins = at w.entry has (wins h.sender (Req r) h.request)
  where
    at : (x : Entry) → HasInSlot cs k w.sender x → WinsBy x (Req r) w.sender h.sender → x ≡ Req r
    at NoOp g less = absurd (h.no_noop (w.sender, g))
    at (Req q) g less =
        same_entry cs k w.sender h.sender (Req q) (Req r) distinct g h.request (omega (arith, less, h.lowest w.sender (Req q) g))

pub request_in_merge : (cs : List Change) (k : ℕ) (r : Request) → HasDistinctSenders cs
    → (slot_of (merge cs) k ≡ Some (Req r)) ↔ HasLowest cs k r
request_in_merge cs k r distinct = at (winner cs k)
  where
    at : Winner cs k → (slot_of (merge cs) k ≡ Some (Req r)) ↔ HasLowest cs k r
    at (Nobody none nobody) = (λ e. absurd cc, λ h. absurd (nobody h.sender (Req r) h.request))
    at (Somebody w some has wins) = (
      λ e.
          let is : w.entry ≡ Req r = cc in
          lowest_is cs k r w.sender (subst (HasInSlot cs k w.sender) is has) (λ t x h. subst (λ y. WinsBy y x w.sender t) is (wins t x h)),
      λ h. some ∙ ap (λ (x : Entry). Some x) (lowest_wins cs k r w distinct h has wins),
    )

pub length-merge : (cs : List Change) → length (merge cs) ≡ longest cs
length-merge cs = length-map-range_with_len (λ k. entry_of (chosen cs k)) 1 (longest cs)

greatest_more : (m n : ℕ) (ns : List ℕ) → IsGreatest (0 ∷ ns) n → IsGreatest (0 ∷ m ∷ ns) (max m n)
greatest_more m n ns h = record { has = at (nat_le n m) refl; most = λ k g. below k g.0 g.1 }
  where
    later : (i : ℕ) → slice_get (0 ∷ ns) i ≡ Some n → Has (0 ∷ m ∷ ns) n
    later zero e = (0, e)
    later (suc i) e = (suc (suc i), e)

    at : (b : Bool) → nat_le n m ≡ b → Has (0 ∷ m ∷ ns) (max m n)
    at true e = let most : max m n ≡ m = grind (arith, nat_tests, e) in rw most (1, refl)
    at false e = let most : max m n ≡ n = grind (arith, nat_tests, e) in rw most (later h.has.0 h.has.1)

    below : (k i : ℕ) → slice_get (0 ∷ m ∷ ns) i ≡ Some k → k ≤ max m n
    below k zero e = let least : k ≡ 0 = cc in omega arith
    below k (suc zero) e = let here : k ≡ m = cc in omega arith
    below k (suc (suc i)) e = omega (arith, h.most k (suc i, e))

longest_is : (cs : List Change) → IsGreatest (0 ∷ map (λ c. length c.log) cs) (longest cs)
longest_is [] = record { has = (0, refl); most = λ k g. only k g.0 g.1 }
  where
    only : (k i : ℕ) → slice_get (0 ∷ []) i ≡ Some k → k ≤ 0
    only k zero e = let least : k ≡ 0 = cc in omega arith
    only k (suc i) e = absurd cc
longest_is (c ∷ cs) = greatest_more (length c.log) (longest cs) (map (λ d. length d.log) cs) (longest_is cs)

pub longest_in_merge : (cs : List Change) → IsGreatest (0 ∷ map (λ c. length c.log) cs) (length (merge cs))
longest_in_merge cs = rw (length-merge cs) (longest_is cs)

carried : (cs ds : List Change) (k s : ℕ) (x : Entry) → HaveSamePlainLogs cs ds → HasInSlot cs k s x → HasInSlot ds k s x
carried cs ds k s x same h = record { log = h.log; source = (same s h.log).0 h.source; entry = h.entry }

turned : (cs ds : List Change) → HaveSamePlainLogs cs ds → HaveSamePlainLogs ds cs
turned cs ds same s l = ((same s l).1, (same s l).0)

lowest_carried : (cs ds : List Change) (k : ℕ) (r : Request) → HaveSamePlainLogs cs ds → HasLowest cs k r → HasLowest ds k r
lowest_carried cs ds k r same h =
    let back = turned cs ds same in
    record {
      no_noop = λ n. h.no_noop (n.0, carried ds cs k n.0 NoOp back n.1);
      sender = h.sender;
      request = carried cs ds k h.sender (Req r) same h.request;
      lowest = λ s x g. h.lowest s x (carried ds cs k s x back g);
    }

pub merge_of_same : (cs ds : List Change) → HasDistinctSenders cs → HaveSamePlainLogs cs ds → merge cs ≡ merge ds
merge_of_same cs ds distinct same = same_slots (merge cs) (merge ds) (λ k. at k (winner ds k))
  where
    at : (k : ℕ) → Winner ds k → slot_of (merge cs) k ≡ slot_of (merge ds) k
    at k (Nobody none nobody) = on (winner cs k) ∙ sym none
      where
        on : Winner cs k → slot_of (merge cs) k ≡ None
        on (Nobody e n) = e
        on (Somebody w some has wins) = absurd (nobody w.sender w.entry (carried cs ds k w.sender w.entry same has))
    at k (Somebody w some has wins) = on w.entry has wins ∙ sym some
      where
        on : (x : Entry) → HasInSlot ds k w.sender x → ((s : ℕ) (y : Entry) → HasInSlot ds k s y → WinsBy x y w.sender s)
            → slot_of (merge cs) k ≡ Some x
        on NoOp h g = (noop_in_merge cs k).1 (w.sender, carried ds cs k w.sender NoOp (turned cs ds same) h)
        on (Req r) h g = (request_in_merge cs k r distinct).1 (lowest_carried ds cs k r (turned cs ds same) (lowest_is ds k r w.sender h g))
