-- Links that are attached one after the other, and given back.
use Rattle.std.specs.Prelude.{◌≡◌, ◌≤◌, ◌<◌, ◌+◌, ◌-◌, ◌^◌, min, ℕ, List, [], ◌∷◌, ◌++◌, length, map, drop, ⊤, Option, Some, None}
use Rattle.std.specs.Prelude.{Result, Ok, Err}
use Rattle.outside.specs.Ports.{GivesNext, next_link}
use Rattle.outside.specs.declared.errors.DeviceError.{DeviceError}
use Rattle.outside.specs.declared.link.Link as link_trait
use Rattle.outside.specs.declared.link.PollAnswer.{PollAnswer}
use Rattle.udp_node.specs.Ports.{port_of}
use Rattle.attached_links.specs.declared.attached.AttachedLink.{AttachedLink}
use Rattle.attached_links.specs.declared.attached.Seat.{Seat}

-- what is seen of ports: the links to come, how many were attached, and those that were given back
pub record PortsSide (L : Type 0) : Type 0 where
  pub to_come : Option (List (List PollAnswer))
  pub attached : ℕ
  pub given_back : List L

abbrev pub ports_side : {L : Type 0} → Option (List (List PollAnswer)) → ℕ → List L → PortsSide L
ports_side to_come attached given_back = record { to_come = to_come; attached = attached; given_back = given_back }

-- where a link is, and what its holder keeps with it
abbrev pub seat_of : {L S : Type 0} → AttachedLink L S → Seat S
seat_of x = record { at = x.at; state = x.state }

module _ {L S : Type 0} (l : link_trait.Ghosts L) where
  -- a link at the port of its seat, over which nothing failed so far
  pub record IsFresh (x : AttachedLink L S) : Type 0 where
    pub lost : x.lost ≡ 0
    pub port : l.own_port x.link ≡ port_of x.at.base x.at.own
    pub faults : l.fault_count x.link ≡ 0
    pub losses : l.loss_count x.link ≡ 0

  abbrev pub AllFresh : List (AttachedLink L S) → Type 0
  AllFresh [] = ⊤
  AllFresh (x ∷ xs) = IsFresh x × AllFresh xs

  -- a link of the seat is held behind the others
  pub record Attached (seat : Seat S) (old new : PortsSide L) (xs ys : List (AttachedLink L S)) : Type 0 where
    pub held : AttachedLink L S
    pub added : ys ≡ xs ++ held ∷ []
    pub is_at : seat_of held ≡ seat
    pub fresh : IsFresh held
    pub content : GivesNext old.to_come new.to_come (l.answers held.link) (l.trace held.link)
    pub attached : new.attached ≡ old.attached + 1
    pub room : length new.given_back < new.attached
    pub given : new.given_back ≡ old.given_back

  -- none is held more: one that was attached is given back
  pub record Unattached (old new : PortsSide L) (xs ys : List (AttachedLink L S)) : Type 0 where
    pub same : ys ≡ xs
    pub balance : new.attached + length old.given_back ≡ old.attached + length new.given_back

  abbrev pub Attaches : Seat S → Result (Unit {0}) DeviceError → PortsSide L → PortsSide L → List (AttachedLink L S)
      → List (AttachedLink L S) → Type 0
  Attaches seat (Ok t) old new xs ys = Attached seat old new xs ys
  Attaches seat (Err e) old new xs ys = Unattached old new xs ys

  -- the links are the first ones of these, and the others are still to come; no call was made on them
  abbrev pub AreFirst : List (List PollAnswer) → List (AttachedLink L S) → Option (List (List PollAnswer)) → Type 0
  AreFirst polls [] left = left ≡ Some polls
  AreFirst polls (x ∷ xs) left =
      (l.answers x.link ≡ Some (next_link polls)) × (l.trace x.link ≡ Some []) × AreFirst (drop 1 polls) xs left

  -- where the ports tell their links
  abbrev pub AreNext : Option (List (List PollAnswer)) → List (AttachedLink L S) → Option (List (List PollAnswer)) → Type 0
  AreNext None xs left = ⊤
  AreNext (Some polls) xs left = AreFirst polls xs left

  -- a link is held for each seat, in order
  pub record AllAttached (seats : List (Seat S)) (old new : PortsSide L) (xs : List (AttachedLink L S)) : Type 0 where
    pub are_at : map seat_of xs ≡ seats
    pub fresh : AllFresh xs
    pub next : AreNext old.to_come xs new.to_come
    pub given : new.given_back ≡ old.given_back

-- so many links of those that were attached are not given back
abbrev pub Holds : {A B : Type 0} → ℕ → List A → ℕ → List A → List B → Type 0
Holds attached given_back attached_now given_back_now links =
    attached_now + length given_back ≡ attached + length given_back_now + length links

-- there is room to give these back
abbrev pub HasRoom : {A B : Type 0} → ℕ → List A → List B → Type 0
HasRoom attached given_back links = 0 < length links → length given_back + length links ≤ attached

-- how many sends failed over all links, up to the greatest number of 64 bits
abbrev pub lost_after : {L S : Type 0} → ℕ → List (AttachedLink L S) → ℕ
lost_after n [] = n
lost_after n (x ∷ xs) = lost_after (min (n + x.lost) (2 ^ 64 - 1)) xs

abbrev pub lost_of : {L S : Type 0} → List (AttachedLink L S) → ℕ
lost_of xs = lost_after 0 xs
