-- What was accepted is of the log from which the history is read, and what is open is stale in no log.
use Rattle.std.proofs.Common.{◌≡◌, ℕ, ◌+◌, ◌*◌, ◌<◌, ◌≤◌, Some, refl, sym, ap, subst, ◌∙◌, arith, List, take, length}
use Rattle.nop_types.specs.declared.limits.TheConstants.{WINDOW}
use Rattle.nop_types.specs.declared.view.View.{View}
use Rattle.nop_types.specs.declared.request.Request.{Request}
use Rattle.nop_types.specs.declared.request.Entry.{Entry}
use Rattle.nop_types.specs.declared.request.Entry.TheVariants.{NoOp, Req}
use Rattle.nop_types.specs.Execution.{result_at}
use Rattle.nop_types.specs.Legality.{IsOf}
use Rattle.nop_types.specs.Lists.{IsPrefixOf, slot_of}
use Rattle.nop_types.specs.Meaning.{Meaning}
use Rattle.nop_types.specs.Views.{Below, leader_of}
use Rattle.execution_laws.specs.Legality.{IsGrounded, Grounded, StandsFrom}
use Rattle.execution_laws.proofs.Ids.{near_in_log}
use Rattle.execution_laws.proofs.Legal.{grounds_carry, grounds_stand, legal_from_grounds}
use Rattle.log_merge.specs.Starting.{Start}
use Rattle.started_views.specs.Past.{HadLog, LeaderHad, IsStart}
use Rattle.started_views.specs.Quorums.{Others}
use Rattle.started_views.specs.Settled.{Reached, HadNoOp, Fixed, MainLog}
use Rattle.started_views.proofs.Fixing.{accept_fixes}
use Rattle.started_views.proofs.Keeping.{fixed_prefixes_are_kept, main_log_has_fixed}
use Rattle.started_views.proofs.Quorums.{quorum_weaker}
use Rattle.lemmas.proofs.Prefixes.{IsPrefixOf-refl}
use Rattle.protocol.specs.Conf.{Conf, DidSay, WasSubmitted, last_normals}
use Rattle.protocol.specs.Invariant.{Replied, Accepted, Inv}
use Rattle.protocol.specs.Said.{GapRep, says}
use Rattle.protocol.proofs.Grounding.{grounds_of}
use Rattle.lemmas.proofs.Options.{same_Some-at}
use Rattle.protocol.proofs.Stays.{others_weaker}
use Rattle.protocol_sync.specs.Laws.{AcceptedStandFromTheirSlots, LinesAreLegal, OpenIsNeverStale}

module _ {S : Type 0} (m : Meaning S) (f : ℕ) (c : Conf) (inv : Inv m f c) where
  -- what the leader replied, in the log that it had then
  pub record WasReplied (w : View) (log : List Entry) (slot client id : ℕ) (result : List ℕ) : Type 0 where
    pub request : Request
    pub entry : slot_of log slot ≡ Some (Req request)
    pub same : IsOf client id request
    pub gives : result_at m log slot ≡ Some result

  module _ (k client id : ℕ) (result : List ℕ) (a : Accepted f c k client id result) where
    abbrev leader : ℕ
    leader = leader_of a.view (2 * f + 1)

    pub was_replied : WasReplied a.view a.log a.slot client id result
    was_replied =
        let p = a.leaders.reply in
        let t = inv.replies p a.leaders.sent in
        let led : LeaderHad f c.past a.view t.log = subst (λ (i : ℕ). HadLog c.past i a.view t.log) a.leaders.by
        (subst (λ (v : View). HadLog c.past p.replica v t.log) a.leaders.at_view t.had) in
        let same : t.log ≡ a.log = same_Some-at (c.past.log leader a.view) t.log a.log led a.leads in
        let leads : p.replica ≡ leader_of p.view (2 * f + 1) = a.leaders.by ∙ ap (λ (v : View). leader_of v (2 * f + 1))
        (sym a.leaders.at_view) in
        let q = t.leads leads in
        record {
          request = q.0;
          entry = subst (λ (l : List Entry). slot_of l a.slot ≡ Some (Req q.0)) same
              (subst (λ (i : ℕ). slot_of t.log i ≡ Some (Req q.0)) a.leaders.at_slot q.1);
          same = record { same_client = q.2.same_client ∙ a.leaders.of_client; same_id = q.2.same_id ∙ a.leaders.of_id };
          gives = subst (λ (l : List Entry). result_at m l a.slot ≡ Some result) same
              (subst (λ (i : ℕ). result_at m t.log i ≡ Some result) a.leaders.at_slot (t.gives leads ∙ ap Some a.gives));
        }

    -- a replica that replied had the slot
    reached : (r : ℕ) → Replied c.replies a.view a.slot client id r → Reached c.past a.view a.slot r
    reached r h =
        let t = inv.replies h.reply h.sent in
        let there : HadLog c.past h.reply.replica a.view t.log =
        subst (λ (v : View). HadLog c.past h.reply.replica v t.log) h.at_view t.had in
        (t.log, subst (λ (i : ℕ). HadLog c.past i a.view t.log) h.by there, omega (arith, t.within, h.at_slot))

    -- a replica that answered a gap had the NO-OP
    had_noop : (i r : ℕ) → DidSay c.said r a.view (GapRep i) → HadNoOp c.past a.view i r
    had_noop i r h = let t = inv.said (says r a.view (GapRep i)) h in (t.log, t.had, t.noop)

    noops : (i : ℕ) (x : Start) → IsStart c.past a.view x → length x.log < i → i < length a.log → slot_of a.log i ≡ Some NoOp
        → Others f leader (HadNoOp c.past a.view i)
    noops i x is above low e =
        let t = inv.logs leader a.view a.log a.leads in
        let same : t.start ≡ x = same_Some-at (c.past.start a.view) t.start x t.is_start is in
        let there : length t.start.log < i = subst (λ (y : Start). length y.log < i) (sym same) above in
        others_weaker f leader (λ q. DidSay c.said q a.view (GapRep i)) (HadNoOp c.past a.view i) (had_noop i)
        (t.settled refl i there low e)

    pub accepted_fixed : Fixed f c.past a.view a.log a.slot
    accepted_fixed = accept_fixes f c.past a.view a.log a.slot (record {
      leads = a.leads;
      within = a.within;
      request = was_replied.request;
      last = was_replied.entry;
      reached = quorum_weaker f (Replied c.replies a.view a.slot client id) (Reached c.past a.view a.slot) reached a.quorum;
      noops = noops;
    })

    -- what is under an accept begins each later start
    pub accepted_kept : (v : View) (x : Start) → Below a.view v → IsStart c.past v x → IsPrefixOf (take a.slot a.log) x.log
    accepted_kept v x below is =
        fixed_prefixes_are_kept f c.stamps (last_normals c) c.past (grounds_of m f c inv) a.view v a.log a.slot x accepted_fixed below is

    abbrev here : IsGrounded m c.lines a.log k client id result
    here = record {
      slot = a.slot;
      request = was_replied.request;
      entry = was_replied.entry;
      same = was_replied.same;
      gives = was_replied.gives;
      known = a.known;
    }

    -- what is under it begins the main log
    accepted_begins : (v : View) (main : List Entry) → MainLog f (last_normals c) c.past v main → IsPrefixOf (take a.slot a.log) main
    accepted_begins v main is =
        main_log_has_fixed f c.stamps (last_normals c) c.past (grounds_of m f c inv) v a.view main a.log a.slot is accepted_fixed

    grounded_at : (v : View) (main : List Entry) → MainLog f (last_normals c) c.past v main → IsGrounded m c.lines main k client id result
    grounded_at v main is =
        grounds_carry m c.lines c.lines a.log main k client id result here (IsPrefixOf-refl c.lines) (accepted_begins v main is)

    stands_at : (v : View) (main : List Entry) → MainLog f (last_normals c) c.past v main → StandsFrom m main client id a.slot result
    stands_at v main is = grounds_stand m c.lines a.log main k client id result here (accepted_begins v main is)

  grounded : (v : View) (main : List Entry) → MainLog f (last_normals c) c.past v main → Grounded m c.lines main
  grounded v main is = record {
    submitted = λ r i. (inv.logs (leader_of v (2 * f + 1)) (last_normals c (leader_of v (2 * f + 1))) main is.current).submitted r i;
    submitted_once = inv.lines.submitted_once;
    accepted_once = inv.lines.accepted_once;
    grounds = λ k client id result e. grounded_at k client id result (inv.lines.grounds k client id result e) v main is;
  }

pub lines_are_legal : {S : Type 0} (m : Meaning S) → LinesAreLegal m
lines_are_legal m f c inv v main is = legal_from_grounds m c.lines main (grounded m f c inv v main is)

-- the ground of what a client keeps is at its slot
pub accepted_stand : {S : Type 0} (m : Meaning S) → AcceptedStandFromTheirSlots m
accepted_stand m f c inv v main is k a has =
    let n : ℕ = (c.clients k).number in
    let good = inv.clients k in
    let g = good.recent a has in
    let there : StandsFrom m main n a.id g.ground.slot a.result = stands_at m f c inv g.place n a.id a.result g.ground v main is in
    subst (λ (i : ℕ). StandsFrom m main i a.id a.slot a.result) good.number
    (subst (λ (slot : ℕ). StandsFrom m main n a.id slot a.result) g.at_slot there)

-- each id that a client has in a log was submitted, so it is at most the last one, which is near each open one
pub open_is_never_stale : {S : Type 0} (m : Meaning S) → OpenIsNeverStale m
open_is_never_stale m f c inv r k within q is =
    let log : List Entry = (c.replicas r).log in
    let good = inv.logs r (c.replicas r).last_normal log (inv.current r within) in
    let near : (c.clients k).last_id < q.id + WINDOW = ((inv.clients k).opened q is).near in
    near_in_log log k q.id (λ x has own.
    let known : WasSubmitted c.lines x = good.submitted x has in
    let high : x.id ≤ (c.clients k).last_id =
    subst (λ (i : ℕ). x.id ≤ (c.clients i).last_id) own (inv.lines.submitted_ids x known).high in
    omega (arith, high, near))
