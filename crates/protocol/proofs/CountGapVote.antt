-- The move `count_gap_vote`.
use Rattle.std.proofs.Common.{◌≡◌, ℕ, ◌+◌, ◌*◌, ◌<◌, ◌≤◌, Some, None, refl, sym, subst, ◌∙◌, arith, length}
use Rattle.std.specs.Prelude.{nat_le}
use Rattle.nop_types.specs.declared.replica_state.Vote.{Vote}
use Rattle.nop_types.specs.declared.replica_state.Vote.TheVariants.{Settled, Waiting}
use Rattle.nop_types.specs.Meaning.{Meaning}
use Rattle.slot_votes.specs.Agreement.{Agreement, gap_vote_counted}
use Rattle.slot_votes.specs.Votes.{vote_of, with_vote}
use Rattle.lemmas.proofs.Members.{Has-none}
use Rattle.protocol.specs.Conf.{Conf, DidSay, after}
use Rattle.protocol.specs.Evolves.{Evolves}
use Rattle.protocol.specs.Invariant.{GoodLog, Waits, Own, Inv}
use Rattle.protocol.specs.LocalState.{LocalState}
use Rattle.protocol.specs.Moves.{count_gap_vote, MayCountGapVote, unless_settled}
use Rattle.protocol.specs.Said.{GapRep}
use Rattle.protocol.proofs.Growing.{Kept}
use Rattle.protocol.proofs.Local.{turns_same, local_keeps}
use Rattle.protocol.proofs.Stays.{log_lasts, own_lasts, waits_last, settled_lasts}
use Rattle.protocol.proofs.Votes.{vote_once, vote_holds, enough_from}
use Rattle.protocol.specs.Conf as conf
use Rattle.protocol.proofs.Spoken.{none_spoken}

module _ {S : Type 0} (m : Meaning S) (f : ℕ) (c : Conf) (r : ℕ) (inv : Inv m f c) (within : r < 2 * f + 1) where
  abbrev p : LocalState
  p = c.replicas r

  own : Own f c r p
  own = inv.own r within

  log_same : (d : Conf) → Evolves f c d → GoodLog f d r p.last_normal p.log
  log_same d ev = log_lasts m f c d ev r p.last_normal p.log (inv.logs r p.last_normal p.log (inv.current r within))

  module _ (g : Agreement) (q : ℕ) (may : MayCountGapVote f c p g q) where
    old : Waits f c.said r p.view p.status p.log g
    old = own.gap.waits g may.waits

    voted : Waits f c.said r p.view p.status p.log (gap_vote_counted g q)
    voted = record {
      count = old.count;
      normal = old.normal;
      leads = old.leads;
      last = old.last;
      noop = old.noop;
      once = vote_once g.votes q;
      within = vote_holds (λ k. k < 2 * f + 1) g.votes q may.vote.within old.within;
      apart = vote_holds (λ k. k ≡ r → ⊥) g.votes q (λ e. may.vote.apart (e ∙ sym own.number)) old.apart;
      voted = vote_holds (λ k. DidSay c.said k p.view (GapRep g.slot)) g.votes q may.vote.said old.voted;
    }

    waits : (v : Vote) (h : Agreement) → unless_settled (gap_vote_counted g q) v ≡ Some h → Waits f c.said r p.view p.status p.log h
    waits Settled h e = absurd cc
    waits Waiting h e = let same : gap_vote_counted g q ≡ h = cc in subst (Waits f c.said r p.view p.status p.log) same voted

    settled : (v : Vote) → vote_of g.f (with_vote g.votes q) ≡ v → unless_settled (gap_vote_counted g q) v ≡ None
        → conf.Settled f c.said p.view (length p.log)
    settled Waiting is none = absurd cc
    settled Settled is none =
        let enough : g.f ≤ length (with_vote g.votes q) =
        enough_from g.f (length (with_vote g.votes q)) (nat_le g.f (length (with_vote g.votes q))) refl is in
        record {
          members = with_vote g.votes q;
          enough = omega (arith, enough, old.count);
          once = voted.once;
          within = voted.within;
          apart = λ k i e. voted.apart k i (e ∙ sym old.leads);
          holds = λ k i. subst (λ (s : ℕ). DidSay c.said k p.view (GapRep s)) old.last (voted.voted k i);
        }

    pub count_gap_vote_keeps : Kept m f c (after f c r (count_gap_vote p g q))
    count_gap_vote_keeps = local_keeps m f c r (count_gap_vote p g q) inv within refl refl (turns_same f c r) (λ d ev had.
        let o : Own f d r p = own_lasts m f c d ev r p own in
        record {
          log = log_same d ev;
          spoken = none_spoken p.view;
          said = λ y i. absurd (Has-none y i);
          replies = λ y i. absurd (Has-none y i);
          own = record {
            number = o.number;
            replicas = o.replicas;
            place = o.place;
            queue = o.queue;
            gap = record {
              waits = λ h e. waits_last m f c d ev r p.view p.status p.log h (waits (vote_of g.f (with_vote g.votes q)) h e);
              last = λ s n none a e. settled_lasts m f c d ev p.view (length p.log) (settled (vote_of g.f (with_vote g.votes q)) refl none);
            };
            changes = o.changes;
          };
        })
