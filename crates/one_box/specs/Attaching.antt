-- The links of a cluster, as they are attached and given back.
use Rattle.std.specs.Prelude.{◌≡◌, ◌≤◌, ◌<◌, ◌+◌, ◌-◌, ◌^◌, min, ℕ, List, [], ◌∷◌, ◌++◌, length, map, drop, ⊤, Option, Some, None}
use Rattle.std.specs.Prelude.{Result, Ok, Err}
use Rattle.nop_types.specs.Configuration.{Configuration}
use Rattle.nop_types.specs.declared.output.Actor.{Actor}
use Rattle.outside.specs.Ports.{GivesNext}
use Rattle.outside.specs.declared.errors.DeviceError.{DeviceError}
use Rattle.outside.specs.declared.link.PollAnswer.{PollAnswer}
use Rattle.udp_node.specs.declared.address.Address.{Address}
use Rattle.udp_node.specs.declared.firing.Timer.{Timer}
use Rattle.udp_node.specs.Ports.{port_of}
use Rattle.one_box.specs.declared.node.BoxActor as code_node
use Rattle.one_box.specs.Actors.{first_op}
use Rattle.one_box.specs.ClusterRun.{opening_nodes}
use Rattle.one_box.specs.Showing.{LinkView, AllShow, AllLostFit, place_of}

-- where an actor is, with its port
abbrev pub place_for : ℕ → Configuration → Actor → Address × ℕ
place_for base c actor = (record { base = base; own = actor; config = c }, port_of base actor)

-- what is seen of ports: the links to come, how many were attached, and those that were given back
pub record PortsSide (L : Type 0) : Type 0 where
  pub to_come : Option (List (List PollAnswer))
  pub attached : ℕ
  pub given_back : List L

abbrev pub ports_side : {L : Type 0} → Option (List (List PollAnswer)) → ℕ → List L → PortsSide L
ports_side to_come attached given_back = record { to_come = to_come; attached = attached; given_back = given_back }

module _ {L : Type 0} (v : LinkView L) where
  -- an actor with a link at its port, on which no call was made
  pub record IsFresh (place : Address) (ts : List Timer) (x : code_node.BoxActor L) : Type 0 where
    pub at : x.at ≡ place
    pub timers : x.timers.items ≡ ts
    pub next_op : x.next_op ≡ first_op place.own
    pub lost : x.lost ≡ 0
    pub port : v.port x.link ≡ port_of place.base place.own
    pub losses : v.losses x.link ≡ 0

  -- it came behind the others, over the next link
  pub record AttachesOne (place : Address) (ts : List Timer) (old new : Option (List (List PollAnswer)))
      (xs ys : List (code_node.BoxActor L)) : Type 0 where
    pub node : code_node.BoxActor L
    pub added : ys ≡ xs ++ node ∷ []
    pub fresh : IsFresh place ts node
    pub content : GivesNext old new (v.answers node.link) (v.trace node.link)

  -- the link is held behind the others
  pub record Attached (place : Address) (ts : List Timer) (old new : PortsSide L) (xs ys : List (code_node.BoxActor L)) : Type 0 where
    pub one : AttachesOne place ts old.to_come new.to_come xs ys
    pub attached : new.attached ≡ old.attached + 1
    pub room : length new.given_back < new.attached
    pub given : new.given_back ≡ old.given_back

  -- nothing is held more: a link that was attached is given back
  pub record Unattached (old new : PortsSide L) (xs ys : List (code_node.BoxActor L)) : Type 0 where
    pub same : ys ≡ xs
    pub balance : new.attached + length old.given_back ≡ old.attached + length new.given_back

  abbrev pub Attaches : Address → List Timer → Result (Unit {0}) DeviceError → PortsSide L → PortsSide L → List (code_node.BoxActor L)
      → List (code_node.BoxActor L) → Type 0
  Attaches place ts (Ok t) old new xs ys = Attached place ts old new xs ys
  Attaches place ts (Err e) old new xs ys = Unattached old new xs ys

  -- where the ports tell their links, these are the actors of the opening
  abbrev pub AttachesAll : ℕ → Configuration → ℕ → List Actor → Option (List (List PollAnswer)) → List (code_node.BoxActor L) → Type 0
  AttachesAll base c now actors None xs = ⊤
  AttachesAll base c now actors (Some polls) xs = AllShow v (opening_nodes base c now actors polls) xs

  -- all actors have a link at their ports
  pub record AllAttached (base : ℕ) (c : Configuration) (now : ℕ) (actors : List Actor) (old new : PortsSide L)
      (xs : List (code_node.BoxActor L)) : Type 0 where
    pub observed : AttachesAll base c now actors old.to_come xs
    pub places : map (place_of v) xs ≡ map (place_for base c) actors
    pub given : new.given_back ≡ old.given_back
    pub lost : AllLostFit v xs

  -- so far, and the links to come
  abbrev pub AttachingOn : ℕ → Configuration → ℕ → List Actor → Option (List (List PollAnswer)) → Option (List (List PollAnswer))
      → List (code_node.BoxActor L) → Type 0
  AttachingOn base c now actors None left xs = ⊤
  AttachingOn base c now actors (Some polls) left xs =
      (left ≡ Some (drop (length actors) polls)) × AllShow v (opening_nodes base c now actors polls) xs

-- so many links of those that were attached are not given back
abbrev pub Holds : {A B : Type 0} → ℕ → List A → ℕ → List A → List B → Type 0
Holds attached given_back attached_now given_back_now nodes =
    attached_now + length given_back ≡ attached + length given_back_now + length nodes

-- there is room to give these back
abbrev pub HasRoom : {A B : Type 0} → ℕ → List A → List B → Type 0
HasRoom attached given_back nodes = 0 < length nodes → length given_back + length nodes ≤ attached

-- how many sends failed over all links, up to the greatest number of 64 bits
abbrev pub lost_after : {L : Type 0} → ℕ → List (code_node.BoxActor L) → ℕ
lost_after n [] = n
lost_after n (x ∷ xs) = lost_after (min (n + x.lost) (2 ^ 64 - 1)) xs

abbrev pub lost_by : {L : Type 0} → List (code_node.BoxActor L) → ℕ
lost_by xs = lost_after 0 xs
