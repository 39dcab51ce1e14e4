-- Links that are attached one after the other.
use Rattle.std.proofs.Common.{◌≡◌, ℕ, zero, suc, ◌+◌, ◌<◌, ◌≤◌, List, [], ◌∷◌, ◌++◌, length, map, Option, Some, None, refl, sym, ap, subst, ◌∙◌}
use Rattle.std.proofs.Common.{arith, length-append, append_assoc}
use Rattle.std.proofs.lemmas.List.{map-append}
use Rattle.outside.specs.Ports.{GivesNext}
use Rattle.outside.specs.declared.link.Link as link_trait
use Rattle.outside.specs.declared.link.PollAnswer.{PollAnswer}
use Rattle.attached_links.specs.declared.attached.AttachedLink.{AttachedLink}
use Rattle.attached_links.specs.declared.attached.Seat.{Seat}
use Rattle.attached_links.specs.Attaching.{AllFresh, AreFirst, AreNext, Attached, HasRoom, Holds, IsFresh, PortsSide, seat_of}

-- ---- the links that come

pub next_none : {L : Type 0} (S : Type 0) (l : link_trait.Ghosts L) (to_come : Option (List (List PollAnswer))) → AreNext {S = S} l to_come [] to_come
next_none S l None = tt
next_none S l (Some polls) = refl

module _ {L S : Type 0} (l : link_trait.Ghosts L) where
  fresh_push : (xs : List (AttachedLink L S)) (x : AttachedLink L S) → AllFresh l xs → IsFresh l x → AllFresh l (xs ++ x ∷ [])
  fresh_push [] x all one = (one, tt)
  fresh_push (y ∷ xs) x all one = (all.0, fresh_push xs x all.1 one)

  first_push : (polls : List (List PollAnswer)) (xs : List (AttachedLink L S)) (x : AttachedLink L S) (mid new : Option (List (List PollAnswer)))
      → AreFirst l polls xs mid → GivesNext mid new (l.answers x.link) (l.trace x.link) → AreFirst l polls (xs ++ x ∷ []) new
  first_push polls [] x mid new left gives =
      let next = subst (λ (o : Option (List (List PollAnswer))). GivesNext o new (l.answers x.link) (l.trace x.link)) left gives in
      (next.1, next.2, next.0)
  first_push polls (y ∷ xs) x mid new first gives = (first.0, first.1, first_push _ xs x mid new first.2 gives)

  next_push : (to_come mid new : Option (List (List PollAnswer))) (xs : List (AttachedLink L S)) (x : AttachedLink L S)
      → AreNext l to_come xs mid → GivesNext mid new (l.answers x.link) (l.trace x.link) → AreNext l to_come (xs ++ x ∷ []) new
  next_push None mid new xs x first gives = tt
  next_push (Some polls) mid new xs x first gives = first_push polls xs x mid new first gives

  module _ (seat : Seat S) (old new : PortsSide L) (xs ys : List (AttachedLink L S)) (one : Attached l seat old new xs ys) where
    pub next_more : (to_come : Option (List (List PollAnswer))) → AreNext l to_come xs old.to_come → AreNext l to_come ys new.to_come
    next_more to_come first =
        subst (λ (zs : List (AttachedLink L S)). AreNext l to_come zs new.to_come) (sym one.added)
        (next_push to_come old.to_come new.to_come xs one.held first one.content)

    pub fresh_more : AllFresh l xs → AllFresh l ys
    fresh_more all = subst (AllFresh l) (sym one.added) (fresh_push xs one.held all one.fresh)

    pub seats_more : (all rest later : List (Seat S)) → map seat_of xs ++ rest ≡ all → rest ≡ seat ∷ later → map seat_of ys ++ later ≡ all
    seats_more all rest later before split =
        ap (λ (zs : List (AttachedLink L S)). map seat_of zs ++ later) one.added
        ∙ ap (λ (ss : List (Seat S)). ss ++ later) (map-append seat_of xs (one.held ∷ []))
        ∙ append_assoc (map seat_of xs) (seat_of one.held ∷ []) later
        ∙ ap (λ (s : Seat S). map seat_of xs ++ s ∷ later) one.is_at
        ∙ ap (λ (ss : List (Seat S)). map seat_of xs ++ ss) (sym split) ∙ before

-- ---- how many links are held

-- a link that was attached and given back
pub given_back : {A : Type 0} (first mid last : ℕ) (det here there : List A) (x : A) → mid ≡ first + 1 → here ≡ det → last ≡ mid
    → there ≡ here ++ x ∷ [] → last + length det ≡ first + length there
given_back first mid last det here there x attached same held back =
    let count : length there ≡ length here + 1 = ap length back ∙ length-append here (x ∷ []) in
    omega (arith, count, attached, held, ap length same)

module _ {A B : Type 0} (first mid last : ℕ) (det here there : List A) (xs ys : List B) where
  pub holds_stays : ys ≡ xs → last + length here ≡ mid + length there → Holds first det mid here xs → Holds first det last there ys
  holds_stays same balance holds = omega (arith, ap length same, balance, holds)

  pub holds_more : (x : B) → ys ≡ xs ++ x ∷ [] → last ≡ mid + 1 → there ≡ here → Holds first det mid here xs → Holds first det last there ys
  holds_more x added attached given holds =
      let count : length ys ≡ length xs + 1 = ap length added ∙ length-append xs (x ∷ []) in
      omega (arith, count, attached, ap length given, holds)

module _ {A B : Type 0} (mid last : ℕ) (here there : List A) (xs ys : List B) where
  pub room_stays : ys ≡ xs → last + length here ≡ mid + length there → HasRoom mid here xs → HasRoom last there ys
  room_stays same balance room some =
      let count : length ys ≡ length xs = ap length same in
      let more : length here + length xs ≤ mid = room (omega (arith, some, count)) in
      omega (arith, count, balance, more)

  pub room_more : (x : B) → ys ≡ xs ++ x ∷ [] → last ≡ mid + 1 → there ≡ here → length there < last → HasRoom mid here xs
      → HasRoom last there ys
  room_more x added attached given one room some = by (length xs) refl
    where
      count : length ys ≡ length xs + 1
      count = ap length added ∙ length-append xs (x ∷ [])

      by : (n : ℕ) → length xs ≡ n → length there + length ys ≤ last
      by zero is = omega (arith, count, is, one)
      by (suc n) is =
          let more : length here + length xs ≤ mid = room (omega (arith, is)) in
          omega (arith, count, attached, ap length given, more)
