-- Answers that are taken one after the other, and the calls on one link of several.
use Rattle.std.proofs.Common.{◌≡◌, ℕ, zero, suc, List, [], ◌∷◌, ◌++◌, length, map, Option, Some, None, refl, sym, ap, subst, ◌∙◌}
use Rattle.std.proofs.Common.{append-nil, append_assoc, Bool, true, false, ◌==◌, inl, inr}
use Rattle.std.specs.Prelude.{Result, Ok, Err, slice_get, slice_set, drop}
use Rattle.std.specs.List.{flat_map}
use Rattle.std.proofs.lemmas.Grind.{flat_map-append}
use Rattle.std.proofs.lemmas.Bool.{eq-eqb, eqb-true, ne_eqb}
use Rattle.std.proofs.lemmas.Bool.Decides.{eqb_tells}
use Rattle.std.proofs.lemmas.Option.{slice_get_within}
use Rattle.lemmas.proofs.Places.{slice_get-set_here, slice_get-set_other}
use Rattle.outside.specs.Observed.{Adds, Stays}
use Rattle.outside.specs.Links as links
use Rattle.outside.specs.declared.errors.DeviceError.{DeviceError}
use Rattle.outside.specs.declared.errors.DeviceError.TheVariants as devices
use Rattle.outside.specs.declared.link.PollAnswer.{PollAnswer}
use Rattle.outside.specs.declared.link.PollAnswer.TheVariants as polls
use Rattle.udp_node.specs.Sends.{Grows}
use Rattle.users.specs.Events as users
use Rattle.users.specs.declared.event.UserAnswer.{UserAnswer}
use Rattle.users.specs.declared.event.UserAnswer.TheVariants as answers
use Rattle.users.specs.declared.event.UserEvent.{UserEvent}
use Rattle.gate_core.specs.declared.act.Event.{Event}
use Rattle.gate.specs.Carrying.{TakesFirst, Takes, TakesAt, TakesAll, came, event_with, packet_if, packet_in, packets_at, received}
use Rattle.gate.specs.Sides.{LinkSeen, LinksSeen}

-- ---- what is observable grows

pub grows_same : {A : Type 0} (a : Option (List A)) → Grows a a []
grows_same None = tt
grows_same (Some xs) = ap (λ ys. Some ys) (sym (append-nil xs))

pub grows_none : {A : Type 0} (a b : Option (List A)) → Stays a b → Grows a b []
grows_none None b h = tt
grows_none (Some xs) b h = h ∙ ap (λ ys. Some ys) (sym (append-nil xs))

pub grows_one : {A : Type 0} (a b : Option (List A)) (x : A) → Adds a b x → Grows a b (x ∷ [])
grows_one None b x h = tt
grows_one (Some xs) b x h = h

pub grows_then : {A : Type 0} (a b c : Option (List A)) (xs ys : List A) → Grows a b xs → Grows b c ys → Grows a c (xs ++ ys)
grows_then None b c xs ys h k = tt
grows_then {A} (Some olds) b c xs ys h k =
    let l : Grows (Some (olds ++ xs)) c ys = subst (λ (o : Option (List A)). Grows o c ys) h k in
    l ∙ ap (λ zs. Some zs) (append_assoc olds xs ys)

-- ---- answers

module _ {A B : Type 0} (gives : A → List B) where
  pub takes_same : (a : Option (List A)) → Takes gives [] a a
  takes_same None = tt
  takes_same (Some xs) = record { taken = []; left = xs; split = refl; given = refl; leaves = refl }

  pub takes_none : (a b : Option (List A)) → Stays a b → Takes gives [] a b
  takes_none None b h = tt
  takes_none (Some xs) b h = record { taken = []; left = xs; split = refl; given = refl; leaves = h }

  pub takes_then : (a b c : Option (List A)) (xs ys : List B) → Takes gives xs a b → Takes gives ys b c → Takes gives (xs ++ ys) a c
  takes_then None b c xs ys h k = tt
  takes_then (Some olds) b c xs ys h k =
      let l : TakesFirst gives ys h.left c = subst (λ (o : Option (List A)). Takes gives ys o c) h.leaves k in
      record {
        taken = h.taken ++ l.taken;
        left = l.left;
        split = h.split ∙ ap (λ zs. h.taken ++ zs) l.split ∙ sym (append_assoc h.taken l.taken l.left);
        given = flat_map-append gives h.taken l.taken ∙ ap (λ zs. zs ++ flat_map gives l.taken) h.given
            ∙ ap (λ zs. xs ++ zs) l.given;
        leaves = l.leaves;
      }

-- what a poll gave
abbrev pub polled : {E : Type 0} → Result (Option (List ℕ)) E → List (List ℕ)
polled (Ok (Some bytes)) = bytes ∷ []
polled _ = []

poll_first : (olds : List PollAnswer) (new : Option (List PollAnswer)) (r : Result (Option (List ℕ)) DeviceError)
    → r ≡ links.poll_result (links.next_poll olds) → new ≡ Some (drop 1 olds) → TakesFirst received (polled r) olds new
poll_first [] new r is left =
    record { taken = []; left = []; split = refl; given = ap (λ (s : Result (Option (List ℕ)) DeviceError). polled s) (sym is); leaves = left }
poll_first (a ∷ olds) new r is left =
    record {
      taken = a ∷ [];
      left = olds;
      split = refl;
      given = by a ∙ ap (λ (s : Result (Option (List ℕ)) DeviceError). polled s) (sym is);
      leaves = left;
    }
  where
    by : (b : PollAnswer) → flat_map received (b ∷ []) ≡ polled (links.poll_result b)
    by (polls.Received bytes) = refl
    by polls.Nothing = refl
    by polls.Failure = refl

pub poll_takes : (old new : Option (List PollAnswer)) (r : Result (Option (List ℕ)) DeviceError) → links.Polls old new r
    → Takes received (polled r) old new
poll_takes None new r h = tt
poll_takes (Some olds) new (Ok t) h = poll_first olds new (Ok t) h.0 h.1
poll_takes (Some olds) new (Err devices.Failed) h = poll_first olds new (Err devices.Failed) h.0 h.1
poll_takes (Some olds) new (Err devices.NoMemory) h = record { taken = []; left = olds; split = refl; given = refl; leaves = h }

-- the event that a call gave
abbrev pub event_given : {E : Type 0} → Result (Option UserEvent) E → List UserEvent
event_given (Ok (Some event)) = event ∷ []
event_given _ = []

came_first : (olds : List UserAnswer) (new : Option (List UserAnswer)) (r : Result (Option UserEvent) DeviceError)
    → r ≡ users.result_of (users.next_answer olds) → new ≡ Some (drop 1 olds) → TakesFirst came (event_given r) olds new
came_first [] new r is left =
    record { taken = []; left = []; split = refl; given = ap (λ (s : Result (Option UserEvent) DeviceError). event_given s) (sym is); leaves = left }
came_first (a ∷ olds) new r is left =
    record {
      taken = a ∷ [];
      left = olds;
      split = refl;
      given = by a ∙ ap (λ (s : Result (Option UserEvent) DeviceError). event_given s) (sym is);
      leaves = left;
    }
  where
    by : (b : UserAnswer) → flat_map came (b ∷ []) ≡ event_given (users.result_of b)
    by (answers.Came event) = refl
    by answers.Nothing = refl
    by answers.Failure = refl

pub event_takes : (old new : Option (List UserAnswer)) (r : Result (Option UserEvent) DeviceError) → users.Gives old new r
    → Takes came (event_given r) old new
event_takes None new r h = tt
event_takes (Some olds) new (Ok t) h = came_first olds new (Ok t) h.0 h.1
event_takes (Some olds) new (Err devices.Failed) h = came_first olds new (Err devices.Failed) h.0 h.1
event_takes (Some olds) new (Err devices.NoMemory) h = record { taken = []; left = olds; split = refl; given = refl; leaves = h }

-- ---- links

pub at_same : (o : Option LinkSeen) → TakesAt [] o o
at_same None = refl
at_same (Some a) = takes_same received a.answers

pub at_then : (a b c : Option LinkSeen) (xs ys : List (List ℕ)) → TakesAt xs a b → TakesAt ys b c → TakesAt (xs ++ ys) a c
at_then None None None xs ys h k = ap (λ zs. zs ++ ys) h ∙ k
at_then None None (Some c) xs ys h k = absurd k
at_then None (Some b) c xs ys h k = absurd h
at_then (Some a) None c xs ys h k = absurd h
at_then (Some a) (Some b) None xs ys h k = absurd k
at_then (Some a) (Some b) (Some c) xs ys h k = takes_then received a.answers b.answers c.answers xs ys h k

pub all_same : (a : LinksSeen) → TakesAll [] a a
all_same a = record { cores = refl; each = λ place. at_same (slice_get a.links place) }

-- nothing came over them
pub all_quiet : (es : List Event) (a : LinksSeen) → ((place : ℕ) → packets_at a.cores place es ≡ []) → TakesAll es a a
all_quiet es a none = record {
  cores = refl;
  each = λ place.
      subst (λ (ps : List (List ℕ)). TakesAt ps (slice_get a.links place) (slice_get a.links place)) (sym (none place))
      (at_same (slice_get a.links place));
}

pub all_then : (a b c : LinksSeen) (es fs : List Event) → TakesAll es a b → TakesAll fs b c → TakesAll (es ++ fs) a c
all_then a b c es fs h k = record {
  cores = k.cores ∙ h.cores;
  each = λ place.
      let later : TakesAt (packets_at a.cores place fs) (slice_get b.links place) (slice_get c.links place) =
      subst (λ (n : ℕ). TakesAt (packets_at n place fs) (slice_get b.links place) (slice_get c.links place)) h.cores (k.each place) in
      subst (λ (xs : List (List ℕ)). TakesAt xs (slice_get a.links place) (slice_get c.links place)) (sym (flat_map-append _ es fs))
      (at_then (slice_get a.links place) (slice_get b.links place) (slice_get c.links place)
      (packets_at a.cores place es) (packets_at a.cores place fs) (h.each place) later);
}

-- a datagram that came over the link at a place, and over no other
own_packet : (b : Bool) (now i : ℕ) (bytes : List ℕ) → packet_in b i (event_with b now i bytes) ≡ bytes ∷ []
own_packet true now i bytes = refl
own_packet false now i bytes = ap (λ (v : Bool). packet_if v bytes) (eq-eqb i i refl)

others_packet : (n now i j : ℕ) (bytes : List ℕ) → (j ≡ i → ⊥) → (b c : Bool) → (i == n) ≡ b → (j == n) ≡ c
    → packet_in c j (event_with b now i bytes) ≡ []
others_packet n now i j bytes away true true e f = absurd (away (eqb-true j n f ∙ sym (eqb-true i n e)))
others_packet n now i j bytes away true false e f = refl
others_packet n now i j bytes away false true e f = refl
others_packet n now i j bytes away false false e f = ap (λ (v : Bool). packet_if v bytes) (ne_eqb i j (λ same. away (sym same)))

-- one of the links was called, and some datagrams came over it
module _ (n : ℕ) (xs : List LinkSeen) (i : ℕ) (x y : LinkSeen) (found : slice_get xs i ≡ Some x) where
  abbrev before : LinksSeen
  before = record { cores = n; links = xs }

  abbrev then : LinksSeen
  then = record { cores = n; links = slice_set xs i y }

  here : (packets : List (List ℕ)) → Takes received packets x.answers y.answers → TakesAt packets (slice_get xs i) (slice_get (slice_set xs i y) i)
  here packets h =
      let there : slice_get (slice_set xs i y) i ≡ Some y = slice_get-set_here xs i y (slice_get_within xs i x found) in
      subst (λ (o : Option LinkSeen). TakesAt packets o (slice_get (slice_set xs i y) i)) (sym found)
      (subst (λ (o : Option LinkSeen). TakesAt packets (Some x) o) (sym there) h)

  other : (j : ℕ) → (j ≡ i → ⊥) → TakesAt [] (slice_get xs j) (slice_get (slice_set xs i y) j)
  other j away =
      subst (λ (o : Option LinkSeen). TakesAt [] (slice_get xs j) o) (sym (slice_get-set_other xs i j y away)) (at_same (slice_get xs j))

  none_at : Takes received [] x.answers y.answers → (j : ℕ) → TakesAt [] (slice_get xs j) (slice_get (slice_set xs i y) j)
  none_at h j = elim (eqb_tells i j) [
    | inl e ↦ subst (λ (k : ℕ). TakesAt [] (slice_get xs k) (slice_get (slice_set xs i y) k)) e.1 (here [] h)
    | inr e ↦ other j (λ s. e.1 (sym s))
  ]

  pub all_set_none : Takes received [] x.answers y.answers → TakesAll [] before then
  all_set_none h = record { cores = refl; each = none_at h }

  module _ (now : ℕ) (bytes : List ℕ) where
    abbrev came_there : List Event
    came_there = event_with (i == n) now i bytes ∷ []

    abbrev At : ℕ → Type 0
    At j = TakesAt (packets_at n j came_there) (slice_get xs j) (slice_get (slice_set xs i y) j)

    one_here : Takes received (bytes ∷ []) x.answers y.answers → At i
    one_here h =
        subst (λ (ps : List (List ℕ)). TakesAt (ps ++ []) (slice_get xs i) (slice_get (slice_set xs i y) i))
        (sym (own_packet (i == n) now i bytes)) (here (bytes ∷ []) h)

    none_there : (j : ℕ) → (j ≡ i → ⊥) → At j
    none_there j away =
        subst (λ (ps : List (List ℕ)). TakesAt (ps ++ []) (slice_get xs j) (slice_get (slice_set xs i y) j))
        (sym (others_packet n now i j bytes away (i == n) (j == n) refl refl)) (other j away)

    one_at : Takes received (bytes ∷ []) x.answers y.answers → (j : ℕ) → At j
    one_at h j = elim (eqb_tells i j) [
      | inl e ↦ subst At e.1 (one_here h)
      | inr e ↦ none_there j (λ s. e.1 (sym s))
    ]

    pub all_set_one : Takes received (bytes ∷ []) x.answers y.answers → TakesAll came_there before then
    all_set_one h = record { cores = refl; each = one_at h }

-- the links, where one of the lines is written
pub map_set : {A B : Type 0} (f : A → B) (ys : List A) (i : ℕ) (z : A) → map f (slice_set ys i z) ≡ slice_set (map f ys) i (f z)
map_set f [] i z = refl
map_set {B = B} f (y ∷ ys) zero z = refl
map_set {B = B} f (y ∷ ys) (suc i) z = ap (λ (ps : List B). f y ∷ ps) (map_set f ys i z)

-- as many links as before
pub same_count : (f : ℕ → List (List ℕ)) (a b : List LinkSeen) → ((core : ℕ) → TakesAt (f core) (slice_get a core) (slice_get b core))
    → length b ≡ length a
same_count f [] [] h = refl
same_count f [] (y ∷ b) h = absurd (h zero)
same_count f (x ∷ a) [] h = absurd (h zero)
same_count f (x ∷ a) (y ∷ b) h = ap (λ (n : ℕ). suc n) (same_count (λ core. f (suc core)) a b (λ core. h (suc core)))
