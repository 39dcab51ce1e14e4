-- Steps that moves do, one after the other.
use Rattle.std.proofs.Common.{◌≡◌, ℕ, Bool, true, false, refl, sym, ap, subst, ◌∙◌, List, [], ◌∷◌, ◌++◌}
use Rattle.std.specs.Prelude.{◌⊎◌}
use Rattle.nop_types.specs.Meaning.{Meaning}
use Rattle.lemmas.proofs.Functions.{put-here, put-other}
use Rattle.started_views.specs.Parts.{InParts}
use Rattle.started_views.specs.Past.{Past, note}
use Rattle.replica_state.specs.declared.sending.Sending.{Sending}
use Rattle.replica_state.specs.declared.state.ReplicaState.{ReplicaState}
use Rattle.replica_state.specs.State.{PointsMeet}
use Rattle.replica_state.specs.Sends.{Effect, still, then_do, when}
use Rattle.protocol.specs.Conf.{Conf}
use Rattle.protocol.specs.Conf as protocol
use Rattle.protocol.specs.LocalState.{LocalState, standing}
use Rattle.protocol.specs.Runs.{Act, Acts, effect, MayAct, run}
use Rattle.protocol.specs.Said.{Said}
use Rattle.nop_types.specs.declared.datagram.Reply.{Reply}
use Rattle.protocol.proofs.Runs.{run_keeps}
use Rattle.protocol_sync.proofs.Above.{gaps_stay_above}
use Rattle.protocol_sync.proofs.Runs.{run_syncs}
use Rattle.refinement.specs.Projection.{local_state_of, said_in, replied_in}
use Rattle.refinement.specs.Replicas.{Matches, SameBut, Adds, AddsSends, ReplicaReaches}
use Rattle.refinement.proofs.Matching.{current}
use Rattle.refinement.proofs.Parts.{Stays, Keeps, note_idle, note_parts, parts_staying, parts_keeping, stays_trans, stays_still}
use Rattle.refinement.proofs.Runs.{run-append, may_all-append}
use Rattle.refinement.proofs.Same.{Same}
use Rattle.refinement.proofs.Sends.{adds_prefix, sends_none, sends_more}

same_but_refl : (r : ℕ) (c : Conf) → SameBut r c c
same_but_refl r c = record {
  replicas = λ q a. refl;
  sequencers = refl;
  clients = refl;
  controllers = refl;
  requests = refl;
  stamps = refl;
  installs = refl;
  lines = refl;
}

same_but_trans : (r : ℕ) (a b c : Conf) → SameBut r a b → SameBut r b c → SameBut r a c
same_but_trans r a b c h g = record {
  replicas = λ q d. g.replicas q d ∙ h.replicas q d;
  sequencers = g.sequencers ∙ h.sequencers;
  clients = g.clients ∙ h.clients;
  controllers = g.controllers ∙ h.controllers;
  requests = g.requests ∙ h.requests;
  stamps = g.stamps ∙ h.stamps;
  installs = g.installs ∙ h.installs;
  lines = g.lines ∙ h.lines;
}

same_but_after : (f r : ℕ) (c : Conf) (x : protocol.Effect) → SameBut r c (protocol.after f c r x)
same_but_after f r c x = record {
  replicas = λ q a. put-other c.replicas r x.state q a;
  sequencers = refl;
  clients = refl;
  controllers = refl;
  requests = refl;
  stamps = refl;
  installs = refl;
  lines = refl;
}

sends_after : (f r : ℕ) (c : Conf) (x : protocol.Effect) (sends : List Sending) → said_in sends ≡ x.said → replied_in sends ≡ x.replies
    → AddsSends c (protocol.after f c r x) sends
sends_after f r c x sends a b = record {
  said = subst (λ (more : List Said). Adds c.said (x.said ++ c.said) more) (sym a) (adds_prefix c.said x.said);
  replies = subst (λ (more : List Reply). Adds c.replies (x.replies ++ c.replies) more) (sym b) (adds_prefix c.replies x.replies);
}

-- a step that stays in its view
pub record InView {S : Type 0} (m : Meaning S) (f : ℕ) (c : Conf) (r : ℕ) (s : ReplicaState) (e : Effect) : Type 0 where
  pub reaches : ReplicaReaches m f c r s e
  pub stays : Stays f r (standing (local_state_of s)) (standing (local_state_of e.0))

module _ {S : Type 0} (m : Meaning S) (f : ℕ) (r : ℕ) where
  -- where the moves end
  pub matches_end : (c : Conf) (s : ReplicaState) (e : Effect) → Matches m f c r s → (one : ReplicaReaches m f c r s e)
      → Matches m f (run m f c one.moves) r e.0
  matches_end c s e h one = record {
    within = h.within;
    inv = (run_keeps m f c one.moves h.inv one.may).0;
    sync = run_syncs m f c one.moves h.inv h.sync one.may;
    above = gaps_stay_above m f c one.moves h.inv h.sync h.above one.may;
    state = one.state;
    points = one.points;
  }

  -- nothing is done, but to what the protocol does not see
  pub nothing_reaches : (c : Conf) (s t : ReplicaState) → Matches m f c r s → local_state_of t ≡ local_state_of s → PointsMeet t
      → ReplicaReaches m f c r s (still t)
  nothing_reaches c s t h same points = record {
    moves = [];
    may = tt;
    state = h.state ∙ sym same;
    points = points;
    others = same_but_refl r c;
    past =
        sym (note_idle f c.past r (standing (local_state_of s)) (current m f c r s h))
        ∙ ap (λ (p : LocalState). note f c.past r (standing (local_state_of s)) (standing p)) (sym same);
    sends = sends_none c;
  }

  -- one move
  pub move_reaches : (c : Conf) (s : ReplicaState) (e : Effect) (a : Act) → Matches m f c r s → MayAct f c (local_state_of s) a
      → Same e (effect m (local_state_of s) a) → PointsMeet e.0 → ReplicaReaches m f c r s e
  move_reaches c s e a h may same points =
      let at : effect m (c.replicas r) a ≡ effect m (local_state_of s) a = ap (λ (p : LocalState). effect m p a) h.state in
      record {
        moves = Acts r a ∷ [];
        may = ((h.within, subst (λ (p : LocalState). MayAct f c p a) (sym h.state) may), tt);
        state =
            put-here c.replicas r (effect m (c.replicas r) a).state
            ∙ ap (λ (x : protocol.Effect). x.state) at
            ∙ sym same.state;
        points = points;
        others = same_but_after f r c (effect m (c.replicas r) a);
        past =
            ap (λ (p : LocalState). note f c.past r (standing p) (standing (effect m p a).state)) h.state
            ∙ ap (λ (p : LocalState). note f c.past r (standing (local_state_of s)) (standing p)) (sym same.state);
        sends = sends_after f r c (effect m (c.replicas r) a) e.1
            (same.said ∙ ap (λ (x : protocol.Effect). x.said) (sym at))
            (same.replies ∙ ap (λ (x : protocol.Effect). x.replies) (sym at));
      }

  -- ---- one step after the other

  reaches_then : (c : Conf) (s : ReplicaState) (e : Effect) (g : ReplicaState → Effect) (one : ReplicaReaches m f c r s e)
      → ReplicaReaches m f (run m f c one.moves) r e.0 (g e.0)
      → InParts f c.past r (standing (local_state_of s)) (standing (local_state_of e.0)) (standing (local_state_of (g e.0).0))
      → ReplicaReaches m f c r s (then_do e g)
  reaches_then c s (t, sends) g one two parts =
      let d : Conf = run m f c one.moves in
      let end : Conf = run m f d two.moves in
      let same : run m f c (one.moves ++ two.moves) ≡ end = run-append m f c one.moves two.moves in
      record {
        moves = one.moves ++ two.moves;
        may = may_all-append m f c one.moves two.moves one.may two.may;
        state = ap (λ (x : Conf). x.replicas r) same ∙ two.state;
        points = two.points;
        others = subst (λ (x : Conf). SameBut r c x) (sym same) (same_but_trans r c d end one.others two.others);
        past =
            ap (λ (x : Conf). x.past) same
            ∙ two.past
            ∙ ap (λ (x : Past). note f x r (standing (local_state_of t)) (standing (local_state_of (g t).0))) one.past
            ∙ note_parts f c.past r (standing (local_state_of s)) (standing (local_state_of t)) (standing (local_state_of (g t).0)) parts;
        sends = subst (λ (x : Conf). AddsSends c x (sends ++ (g t).1)) (sym same) (sends_more c d end sends (g t).1 one.sends two.sends);
      }

  -- any step, and one that stays in its view
  pub reaches_then_in_view : (c : Conf) (s : ReplicaState) (e : Effect) (g : ReplicaState → Effect) → Matches m f c r s
      → ReplicaReaches m f c r s e → ((d : Conf) → Matches m f d r e.0 → InView m f d r e.0 (g e.0))
      → ReplicaReaches m f c r s (then_do e g)
  reaches_then_in_view c s e g h one next =
      let two = next (run m f c one.moves) (matches_end c s e h one) in
      reaches_then c s e g one two.reaches (parts_staying f c.past r (standing (local_state_of s)) (standing (local_state_of e.0))
      (standing (local_state_of (g e.0).0)) two.stays)

  -- both stay in the view
  pub in_view_then : (c : Conf) (s : ReplicaState) (e : Effect) (g : ReplicaState → Effect) → Matches m f c r s
      → InView m f c r s e → ((d : Conf) → Matches m f d r e.0 → InView m f d r e.0 (g e.0)) → InView m f c r s (then_do e g)
  in_view_then c s (t, sends) g h one next =
      let two = next (run m f c one.reaches.moves) (matches_end c s (t, sends) h one.reaches) in
      record {
        reaches = reaches_then_in_view c s (t, sends) g h one.reaches next;
        stays = stays_trans f r (standing (local_state_of s)) (standing (local_state_of t)) (standing (local_state_of (g t).0)) one.stays two.stays;
      }

  -- a step that changes nothing that is noted but the view, and one after it, of which one at most enters a view
  pub keeps_then : (c : Conf) (s : ReplicaState) (e : Effect) (g : ReplicaState → Effect) → Matches m f c r s
      → (one : ReplicaReaches m f c r s e) → Keeps (standing (local_state_of s)) (standing (local_state_of e.0))
      → ReplicaReaches m f (run m f c one.moves) r e.0 (g e.0) → ((g e.0).0.view ≡ e.0.view) ⊎ (e.0.view ≡ s.view)
      → ReplicaReaches m f c r s (then_do e g)
  keeps_then c s e g h one keeps two once =
      reaches_then c s e g one two (parts_keeping f c.past r (standing (local_state_of s)) (standing (local_state_of e.0))
      (standing (local_state_of (g e.0).0)) keeps (current m f c r s h) once)

  -- ---- parts that stay in the view

  pub nothing_in_view : (c : Conf) (s t : ReplicaState) → Matches m f c r s → local_state_of t ≡ local_state_of s → PointsMeet t
      → InView m f c r s (still t)
  nothing_in_view c s t h same points = record {
    reaches = nothing_reaches c s t h same points;
    stays = subst (λ (p : LocalState). Stays f r (standing (local_state_of s)) (standing p)) (sym same) (stays_still f r (standing (local_state_of s)));
  }

  pub move_in_view : (c : Conf) (s : ReplicaState) (e : Effect) (a : Act) → Matches m f c r s → MayAct f c (local_state_of s) a
      → Same e (effect m (local_state_of s) a) → Stays f r (standing (local_state_of s)) (standing (local_state_of e.0)) → PointsMeet e.0
      → InView m f c r s e
  move_in_view c s e a h may same stays points = record { reaches = move_reaches c s e a h may same points; stays = stays }

  -- ---- where a test holds

  pub when_reaches : (c : Conf) (s : ReplicaState) (b : Bool) (g : ReplicaState → Effect) → Matches m f c r s
      → (b ≡ true → ReplicaReaches m f c r s (g s)) → ReplicaReaches m f c r s (when b g s)
  when_reaches c s true g h go = go refl
  when_reaches c s false g h go = nothing_reaches c s s h refl h.points

  pub when_in_view : (c : Conf) (s : ReplicaState) (b : Bool) (g : ReplicaState → Effect) → Matches m f c r s
      → (b ≡ true → InView m f c r s (g s)) → InView m f c r s (when b g s)
  when_in_view c s true g h go = go refl
  when_in_view c s false g h go = nothing_in_view c s s h refl h.points
