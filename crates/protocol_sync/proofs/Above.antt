-- A gap that waits is above what is synchronised.
use Rattle.std.proofs.Common.{◌≡◌, ℕ, ◌+◌, ◌*◌, ◌<◌, ◌≤◌, Bool, true, false, cond, []}
use Rattle.std.proofs.Common.{◌∷◌, length, take, Option, Some, None, refl, sym, ap, subst, ◌∙◌, arith, inl, inr}
use Rattle.std.specs.Prelude.{◌==◌}
use Rattle.std.proofs.lemmas.Bool.{cases_lt}
use Rattle.std.proofs.lemmas.List.{length-take-le}
use Rattle.nop_types.specs.declared.view.View.{View}
use Rattle.nop_types.specs.declared.replica_state.Vote.{Vote}
use Rattle.nop_types.specs.declared.replica_state.Vote.TheVariants.{Settled, Waiting}
use Rattle.nop_types.specs.declared.request.Entry.TheVariants.{NoOp}
use Rattle.nop_types.specs.Lists.{slot_of}
use Rattle.nop_types.specs.Meaning.{Meaning}
use Rattle.nop_types.specs.Views.{leader_of}
use Rattle.lemmas.proofs.Functions.{put-all}
use Rattle.lemmas.proofs.Options.{same_Some-at}
use Rattle.lemmas.proofs.Prefixes.{IsPrefixOf-take}
use Rattle.lemmas.proofs.Slots.{slot_of-from_take}
use Rattle.slot_votes.specs.Agreement.{Agreement, begun}
use Rattle.slot_votes.specs.Votes.{vote_of, with_vote}
use Rattle.log_merge.specs.Starting.{Start}
use Rattle.started_views.specs.Past.{HadLog, IsStart}
use Rattle.slot_votes.specs.Synchronisation.{Round, Synchronisation, closed, counted_in}
use Rattle.protocol.specs.Conf as conf
use Rattle.protocol.specs.Conf.{Conf}
use Rattle.protocol.specs.Invariant.{Inv, GoodLog, Own}
use Rattle.protocol.specs.LocalState.{LocalState, leads, max_faults}
use Rattle.protocol.specs.Moves.{entered, enter_as, unless_settled}
use Rattle.protocol.specs.Runs.{Act, Queue, TakeFront, Fill, OpenGap, CountGapVote, WriteGap, AddGap, Enter, KeepChange, OpenView, Adopt}
use Rattle.protocol.specs.Runs.{Say, Overlay, Obey, OpenSync, CountSyncVote, RepeatCommit, Move, Acts}
use Rattle.protocol.specs.Runs.{effect, happens, May, MayAct}
use Rattle.protocol.proofs.Places.{leads_it, follows_it}
use Rattle.protocol.proofs.Runs.{happens_keeps}
use Rattle.protocol_sync.specs.Synced.{GoodSync, Sync}
use Rattle.protocol_sync.proofs.Runs.{happens_syncs}
use Rattle.protocol_sync.specs.Above.{GapIsAbove, GapsAreAbove, GapsOpenAbove, GapsStayAbove, SyncedIsPrepared}

no_gap : (p : LocalState) → p.gap ≡ None → GapIsAbove p
no_gap p none = record {
  point = λ g e. absurd (let both : Some g ≡ None = sym e ∙ none in cc);
  round = λ g x e i. absurd (let both : Some g ≡ None = sym e ∙ none in cc);
}

-- what waits is the agreement, if anything does
waiting_is : (a g : Agreement) (v : Vote) → unless_settled a v ≡ Some g → a ≡ g
waiting_is a g Settled e = absurd cc
waiting_is a g Waiting e = cc

-- a vote for a round leaves its length
closed_above : (s : Synchronisation) (x y : Round) (n : ℕ) (b : Bool) (v : Vote) → y.len ≡ x.len → s.sync_point < n → x.len < n
    → (closed s (cond b y x) (cond b v Waiting)).sync_point < n
closed_above s x y n false v same low round = low
closed_above s x y n true Waiting same low round = low
closed_above s x y n true Settled same low round = omega (arith, same, round)

closed_round : (s : Synchronisation) (x y z : Round) (n : ℕ) (b : Bool) (v : Vote) → y.len ≡ x.len → x.len < n
    → (closed s (cond b y x) (cond b v Waiting)).syncing ≡ Some z → z.len < n
closed_round s x y z n false v same round e = let is : x ≡ z = cc in subst (λ (t : Round). t.len < n) is round
closed_round s x y z n true Waiting same round e =
    let is : y ≡ z = cc in subst (λ (t : Round). t.len < n) is (omega (arith, same, round))
closed_round s x y z n true Settled same round e = absurd cc

vote_above : (s : Synchronisation) (q k n : ℕ) (o : Option Round) → s.sync_point < n → ((x : Round) → o ≡ Some x → x.len < n)
    → (counted_in s o q k).sync_point < n
vote_above s q k n None low rounds = low
vote_above s q k n (Some x) low rounds =
    closed_above s x (record x { votes = with_vote x.votes q }) n (x.len == k) (vote_of s.f (with_vote x.votes q)) refl low (rounds x refl)

vote_round : (s : Synchronisation) (q k n : ℕ) (o : Option Round) (z : Round) → s.syncing ≡ o → ((x : Round) → o ≡ Some x → x.len < n)
    → (counted_in s o q k).syncing ≡ Some z → z.len < n
vote_round s q k n None z is rounds e = absurd (let none : None ≡ Some z = sym is ∙ e in cc)
vote_round s q k n (Some x) z is rounds e =
    closed_round s x (record x { votes = with_vote x.votes q }) z n (x.len == k) (vote_of s.f (with_vote x.votes q)) refl (rounds x refl) e

entered_none : (b : Bool) (p : LocalState) (v : View) → (enter_as b (entered p v)).state.gap ≡ None
entered_none true p v = refl
entered_none false p v = refl

module _ {S : Type 0} (m : Meaning S) (f : ℕ) where
  module _ (c : Conf) (r : ℕ) (inv : Inv m f c) (sync : Sync f c) (within : r < 2 * f + 1) (above : GapIsAbove (c.replicas r)) where
    abbrev p : LocalState
    p = c.replicas r

    own : GoodSync f c r p
    own = sync.own r within

    opened : (g : Agreement) (v : Vote) → unless_settled (begun (length p.log + 1) (max_faults p)) v ≡ Some g → length p.log + 1 ≡ g.slot
    opened g v e = ap (λ (a : Agreement). a.slot) (waiting_is (begun (length p.log + 1) (max_faults p)) g v e)

    act_above : (a : Act) → MayAct f c p a → GapIsAbove (effect m p a).state
    act_above (Queue x) may = record { point = above.point; round = above.round }
    act_above (TakeFront q) may = record { point = above.point; round = above.round }
    act_above (Fill q) may = record { point = above.point; round = above.round }
    act_above OpenGap may = record {
      point = λ g e.
          let slot = opened g (vote_of (max_faults p) []) e in
          let low = own.agrees.same.left in
          omega (arith, slot, low);
      round = λ g x e i. let slot = opened g (vote_of (max_faults p) []) e in let low = (own.syncing x i).within in omega (arith, slot, low);
    }
    act_above (CountGapVote a q) may = record {
      point = λ g e. subst (λ (t : Agreement). p.sync.sync_point < t.slot) (waiting_is _ g _ e) (above.point a may.waits);
      round = λ g x e i. subst (λ (t : Agreement). x.len < t.slot) (waiting_is _ g _ e) (above.round a x may.waits i);
    }
    act_above (WriteGap k) may = record { point = above.point; round = above.round }
    act_above AddGap may = record { point = above.point; round = above.round }
    act_above (Enter v) may = no_gap (effect m p (Enter v)).state (entered_none (leads (entered p v)) p v)
    act_above (KeepChange g x) may = record { point = above.point; round = above.round }
    act_above (OpenView g) may = no_gap (effect m p (OpenView g)).state refl
    act_above (Adopt v x z l) may = no_gap (effect m p (Adopt v x z l)).state refl
    act_above (Say x) may = above
    act_above (Overlay z l) may = record {
      point = λ g e. absurd (follows_it m f c r inv within may.follows ((inv.own r within).gap.waits g e).leads);
      round = λ g x e i. absurd (follows_it m f c r inv within may.follows ((inv.own r within).gap.waits g e).leads);
    }
    act_above (Obey k) may = record {
      point = λ g e. absurd (follows_it m f c r inv within may.may_follow.follows ((inv.own r within).gap.waits g e).leads);
      round = λ g x e i. absurd (follows_it m f c r inv within may.may_follow.follows ((inv.own r within).gap.waits g e).leads);
    }
    act_above OpenSync may = no_gap (effect m p OpenSync).state may.no_gap
    act_above (CountSyncVote q k) may = record {
      point = λ g e. vote_above p.sync q k g.slot p.sync.syncing (above.point g e) (λ x i. above.round g x e i);
      round = λ g x e i. vote_round p.sync q k g.slot p.sync.syncing x refl (λ y j. above.round g y e j) i;
    }
    act_above RepeatCommit may = above

  happens_above : (c : Conf) → Inv m f c → Sync f c → GapsAreAbove f c → (x : Move) → May f c x → GapsAreAbove f (happens m f c x)
  happens_above c inv sync above (Acts r a) may = λ q within.
      put-all (λ i t. i < 2 * f + 1 → GapIsAbove t) c.replicas r (effect m (c.replicas r) a).state
      (λ low. act_above c r inv sync low (above r low) a may.1) (λ i n low. above i low) q within
  happens_above c inv sync above _ may = above

pub gaps_stay_above : {S : Type 0} (m : Meaning S) → GapsStayAbove m
gaps_stay_above m f c [] inv sync above may = above
gaps_stay_above m f c (x ∷ xs) inv sync above (may, rest) =
    gaps_stay_above m f (happens m f c x) xs (happens_keeps m f c x inv may).0 (happens_syncs m f c x inv sync may)
    (happens_above m f c inv sync above x may) rest

pub synced_is_prepared : {S : Type 0} (m : Meaning S) → SyncedIsPrepared m
synced_is_prepared m f c r inv sync above within may =
    let p : LocalState = c.replicas r in
    let n : ℕ = p.sync.sync_point in
    let own : Own f c r p = inv.own r within in
    let view : p.last_normal ≡ p.view = own.place.normal may.normal in
    let led : r ≡ leader_of p.view (2 * f + 1) = leads_it m f c r inv within may.leads in
    let had : HadLog c.past r p.view p.log = subst (λ (w : View). HadLog c.past r w p.log) view (inv.current r within) in
    let good : GoodLog f c r p.view p.log = inv.logs r p.view p.log had in
    let low : n ≤ length p.log = (sync.own r within).agrees.same.left in
    let len : length (take n p.log) ≡ n = length-take-le n p.log low in
    record {
      sender = led;
      start = good.start;
      is_start = good.is_start;
      lead = p.log;
      leads = subst (λ (i : ℕ). HadLog c.past i p.view p.log) led had;
      begins = IsPrefixOf-take n p.log;
      settled = λ longer noop.
          let there = slot_of-from_take n p.log (length (take n p.log)) NoOp noop in
          let here : slot_of p.log n ≡ Some NoOp = subst (λ (k : ℕ). slot_of p.log k ≡ Some NoOp) len there.1 in
          subst (λ (k : ℕ). conf.Settled f c.said p.view k) (sym len) (elim (cases_lt n (length p.log)) [
            | inl less ↦ good.settled led n (omega (arith, len, longer)) less here
            | inr high ↦
                let last : n ≡ length p.log = omega (arith, high, low) in
                subst (λ (k : ℕ). conf.Settled f c.said p.view k) (sym last)
                (at_last p.gap refl last (subst (λ (k : ℕ). slot_of p.log k ≡ Some NoOp) last here) (omega (arith, len, longer)))
          ]);
    }
  where
    at_last : (o : Option Agreement) → (c.replicas r).gap ≡ o → (c.replicas r).sync.sync_point ≡ length (c.replicas r).log
        → slot_of (c.replicas r).log (length (c.replicas r).log) ≡ Some NoOp
        → length (inv.logs r (c.replicas r).view (c.replicas r).log
        (subst (λ (w : View). HadLog c.past r w (c.replicas r).log) ((inv.own r within).place.normal may.normal)
        (inv.current r within))).start.log
        < (c.replicas r).sync.sync_point
        → conf.Settled f c.said (c.replicas r).view (length (c.replicas r).log)
    at_last None none last noop longer =
        let q : LocalState = c.replicas r in
        let own : Own f c r q = inv.own r within in
        let view : q.last_normal ≡ q.view = own.place.normal may.normal in
        let led : r ≡ leader_of q.view (2 * f + 1) = leads_it m f c r inv within may.leads in
        let good = inv.logs r q.view q.log (subst (λ (w : View). HadLog c.past r w q.log) view (inv.current r within)) in
        let base : q.base ≡ length own.place.start.log = own.place.base (led ∙ ap (λ (w : View). leader_of w (2 * f + 1)) (sym view)) in
        let start : own.place.start ≡ good.start = same_Some-at (c.past.start q.view) own.place.start good.start
        (subst (λ (w : View). IsStart c.past w own.place.start) view own.place.is_start) good.is_start in
        let same : length own.place.start.log ≡ length good.start.log = ap (λ (x : Start). length x.log) start in
        own.gap.last led may.normal none (omega (arith, base, same, longer, last)) noop
    at_last (Some g) waits last noop longer =
        let slot = ((inv.own r within).gap.waits g waits).last in
        let low = (above r within).point g waits in
        absurd (omega (arith, slot, low, last))

pub gaps_open_above : GapsOpenAbove
gaps_open_above f config q low = no_gap _ refl
