-- A run over links that were attached, which are given back.
use Rattle.std.proofs.Common.{◌≡◌, ℕ, ◌+◌, ◌≤◌, List, [], ◌∷◌, ◌++◌, map, length, Option, refl, sym, ap, subst, ◌∙◌, arith, inl, inr}
use Rattle.std.proofs.Common.{Result, Ok, Err, length-append}
use Rattle.std.proofs.lemmas.List.{length-map}
use Rattle.outside.specs.Causes.{CountsFor}
use Rattle.outside.specs.declared.errors.DeviceError.{DeviceError}
use Rattle.outside.specs.declared.errors.DeviceError.TheVariants as devices
use Rattle.attached_links.specs.Attaching.{HasRoom}
use Rattle.attached_links.specs.declared.attached.AttachedLink.{AttachedLink}
use Rattle.outside.specs.declared.link.Link as link_trait
use Rattle.outside.specs.declared.link.PollAnswer.{PollAnswer}
use Rattle.gate_core.specs.declared.gate_state.GateState.{GateState}
use Rattle.gate.specs.declared.errors.GateError.{GateError}
use Rattle.gate.specs.declared.errors.GateError.TheVariants.{PortFault, LinkFault, UsersFault, NoMemory}
use Rattle.gate.specs.declared.lines.Timers.{Timers}
use Rattle.gate.specs.declared.lines.Lines.{Lines}
use Rattle.gate.specs.Attaching.{AreNew, seat_count}
use Rattle.gate.specs.Carrying.{Runs}
use Rattle.gate.specs.Faults.{port_fault}
use Rattle.gate.specs.Serving.{IsUnattached, RunsOver, Serves}
use Rattle.gate.specs.Sides.{LinkSeen, Side, UsersSeen, line_seen, lines_seen, link_seen, links_seen, seen}
use Rattle.gate.proofs.Running.{runs_cores, runs_count}

-- a run tells no fault of a port
pub no_port_fault : {T : Type 0} (r : Result T GateError) (a b : Side) → Runs r a b → r ≡ Err PortFault → ⊥
no_port_fault (Ok t) a b runs is = cc
no_port_fault (Err PortFault) a b runs is = runs.cause
no_port_fault (Err LinkFault) a b runs is = cc
no_port_fault (Err UsersFault) a b runs is = cc
no_port_fault (Err NoMemory) a b runs is = cc

module _ {L T : Type 0} (l : link_trait.Ghosts L) (r : Result T GateError) (g h : GateState) (users users_now : UsersSeen) (n : ℕ) (xs : List (AttachedLink L Timers))
    (lines : Lines L) (runs : Runs r (seen g users (record { cores = n; links = lines_seen l xs })) (seen h users_now (links_seen l lines))) where
  abbrev ys : List (AttachedLink L Timers)
  ys = lines.lines.items

  abbrev from : Side
  from = seen g users (record { cores = n; links = lines_seen l xs })

  pub same_lines : length ys ≡ length xs
  same_lines =
      sym (length-map ys (line_seen l)) ∙ runs_count r from (seen h users_now (links_seen l lines)) runs
      ∙ length-map xs (line_seen l)

  pub same_room : {A : Type 0} (attached : ℕ) (given : List A) → HasRoom attached given xs → HasRoom attached given ys
  same_room attached given room some =
      let same = same_lines in
      let more : length given + length xs ≤ attached = room (omega (arith, some, same)) in
      omega (arith, more, same)

  links_back : (zs : List (AttachedLink L Timers)) → map (link_seen l) (map (λ (x : AttachedLink L Timers). x.link) zs) ≡ lines_seen l zs
  links_back [] = refl
  links_back (z ∷ zs) = ap (λ (ks : List LinkSeen). line_seen l z ∷ ks) (links_back zs)

  pub runs_over : (given given_now : List L) → given_now ≡ given ++ map (λ x. x.link) ys → RunsOver l r from users_now given given_now
  runs_over given given_now back = record {
    links = map (λ x. x.link) ys;
    back = back;
    ends = h;
    runs = subst (λ (ks : List LinkSeen). Runs r from (seen h users_now (record { cores = n; links = ks }))) (sym (links_back ys))
        (subst (λ (m : ℕ). Runs r from (seen h users_now (record { cores = m; links = lines_seen l ys })))
        (runs_cores r from (seen h users_now (links_seen l lines)) runs) runs);
  }

  pub count_back : (given given_now : List L) → given_now ≡ given ++ map (λ x. x.link) ys → length given_now ≡ length given + length xs
  count_back given given_now back =
      ap length back ∙ length-append given (map (λ x. x.link) ys)
      ∙ ap (λ (n : ℕ). length given + n) (length-map ys (λ x. x.link) ∙ same_lines)

-- ---- the whole

module _ {L : Type 0} (l : link_trait.Ghosts L) (g : GateState) (observer : Option ℕ) (count : ℕ) (to_come : Option (List (List PollAnswer))) where
  pub served : {T : Type 0} (r : Result T GateError) (old new : UsersSeen) (given mid given_now : List L) (links : List LinkSeen)
      → AreNew (seat_count observer count) to_come links → mid ≡ given
      → RunsOver l r (seen g old (record { cores = count; links = links })) new mid given_now
      → Serves l g observer count to_come r old new given given_now
  served r old new given mid given_now links are same over = inr (record {
    attached = links;
    are = are;
    runs = subst (λ (ks : List L). RunsOver l r (seen g old (record { cores = count; links = links })) new ks given_now) same over;
  })

  pub unserved : {T : Type 0} (e : DeviceError) (fault : GateError) (users : UsersSeen) (given given_now : List L) → fault ≡ port_fault e
      → Serves l {T = T} g observer count to_come (Err fault) users users given given_now
  unserved {T} devices.Failed fault users given given_now is =
      inl (subst (λ (f : GateError). IsUnattached {T = T} (Err f)) (sym is) tt, refl)
  unserved {T} devices.NoMemory fault users given given_now is =
      inl (subst (λ (f : GateError). IsUnattached {T = T} (Err f)) (sym is) tt, refl)

pub over_no_port_fault : {L T : Type 0} (l : link_trait.Ghosts L) (r : Result T GateError) (from : Side) (users : UsersSeen) (given given_now : List L)
    → RunsOver l r from users given given_now → r ≡ Err PortFault → ⊥
over_no_port_fault l r from users given given_now over is =
    no_port_fault r from (seen over.ends users (record { cores = from.links.cores; links = map (link_seen l) over.links })) over.runs is

-- a port that could not be opened is told
pub port_counts : {T U : Type 0} (before now : ℕ) (e : DeviceError) (fault : GateError) → fault ≡ port_fault e
    → CountsFor {T = T} before now devices.Failed (Err e) → CountsFor {T = U} before now PortFault (Err fault)
port_counts before now devices.Failed fault is counts = record {
  later = counts.later;
  failed = λ told. counts.failed refl;
  others = λ never. absurd (never (ap Err is));
}
port_counts before now devices.NoMemory fault is counts = record {
  later = counts.later;
  failed = λ told. absurd cc;
  others = λ never. counts.others (λ told. cc);
}
