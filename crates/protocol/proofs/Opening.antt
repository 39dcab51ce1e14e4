-- The opening meets what holds of each world.
use Rattle.std.proofs.Common.{◌≡◌, ℕ, zero, suc, ◌+◌, ◌*◌, ◌≤◌, Bool, true, false, Some, refl, sym, subst, arith, inl, List, [], map}
use Rattle.std.specs.Prelude.{◌==◌, if◌then◌else◌}
use Rattle.nop_types.specs.Configuration.{Configuration}
use Rattle.nop_types.specs.declared.view.View.{View}
use Rattle.nop_types.specs.declared.request.Request.{Request}
use Rattle.nop_types.specs.declared.request.Entry.{Entry}
use Rattle.nop_types.specs.declared.request.Entry.TheVariants.{NoOp, Req}
use Rattle.nop_types.specs.declared.datagram.Reply.{Reply}
use Rattle.nop_types.specs.Lists.{Has, slot_of}
use Rattle.nop_types.specs.Meaning.{Meaning}
use Rattle.nop_types.specs.Sessions.{opening_session}
use Rattle.nop_types.specs.Views.{AtMost, first_view, leader_of}
use Rattle.log_merge.specs.Starting.{Start}
use Rattle.oum_receiver.proofs.Stamps.{opened_stamped}
use Rattle.started_views.specs.Past.{HadLog, LeaderHad}
use Rattle.lemmas.proofs.Members.{Has-none}
use Rattle.std.proofs.lemmas.Bool.{eqb-true}
use Rattle.started_views.proofs.Past.{first_log, first_start}
use Rattle.lemmas.proofs.Slots.{slot_of-within}
use Rattle.lemmas.proofs.Prefixes.{IsPrefixOf-refl}
use Rattle.lemmas.proofs.Views.{AtMost-refl}
use Rattle.protocol.specs.Conf.{Conf, HasOwner, opening}
use Rattle.client_quorum.proofs.OpenRequests.{opening_keeps_none, opening_opens_none}
use Rattle.started_views.specs.Quorums.{counts}
use Rattle.protocol.specs.Invariant.{GoodSequencer, GoodLog, Own, Inv}
use Rattle.protocol.specs.Laws.{OpeningMeets}
use Rattle.protocol.specs.LocalState.{fresh}

none_there : (x : Entry) (k : ℕ) → slot_of [] k ≡ Some x → ⊥
none_there x k e = let h = slot_of-within [] k x e in omega (arith, h.0, h.1)

opens_low : (k : ℕ) → 1 ≤ opening_session k
opens_low zero = omega arith
opens_low (suc k) = omega arith

-- the first session is sequencer 0's
first_owner : HasOwner [] first_view.session
first_owner = (0, inl (refl, refl))

abbrev first_start_of : Start
first_start_of = record { next = 1; log = [] }

module _ {S : Type 0} (m : Meaning S) (f : ℕ) (config : Configuration) (count : config.replicas ≡ 2 * f + 1) where
  abbrev c : Conf
  c = opening config

  had_first : (r : ℕ) → HadLog c.past r first_view []
  had_first r = refl

  first_log_good : (r : ℕ) → GoodLog f c r first_view []
  first_log_good r = record {
    start = first_start_of;
    is_start = refl;
    lead = [];
    leads = had_first (leader_of first_view (2 * f + 1));
    begins = IsPrefixOf-refl [];
    by_number = λ k q a e. absurd (none_there (Req q) k e);
    noops = λ k a e. absurd (none_there NoOp k e);
    submitted = λ q i. absurd (Has-none _ i);
    session = first_owner;
    announced = λ s k a e. absurd (none_there NoOp k e);
    settled = λ s k a b e. absurd (none_there NoOp k e);
  }

  sequencer_good : (j : ℕ) (b : Bool) → (j == 0) ≡ b → GoodSequencer [] j (record { number = j; session = if b then 1 else 0; next = 1 })
  sequencer_good j true e = record { number = refl; owns = λ one. inl (eqb-true j 0 e, refl); low = omega arith }
  sequencer_good j false e = record { number = refl; owns = λ one. absurd (omega (arith, one)); low = omega arith }

  own_good : (r : ℕ) → Own f c r (fresh config.replicas r)
  own_good r = record {
    number = refl;
    replicas = count;
    place = record {
      normal = λ n. refl;
      change = λ n. absurd cc;
      start = first_start_of;
      is_start = refl;
      counted = omega arith;
      base = λ s. refl;
    };
    queue = record { session = refl; front = λ n. refl; queued = opened_stamped [] 1 1 };
    gap = record { waits = λ g e. absurd cc; last = λ s n none a e. absurd (omega (arith, a)) };
    changes = record { entered = λ n. absurd cc; gathers = λ g e. absurd cc; leads = λ n s. absurd cc };
  }

  pub opening_holds : Inv m f c
  opening_holds = record {
    requests = λ r i. absurd (Has-none r i);
    stamps = λ p i. absurd (Has-none p i);
    stamped_once = λ session number a b h g. absurd (Has-none _ h);
    sequencers = λ j. sequencer_good j (j == 0) refl;
    installs = λ x i. absurd (Has-none x i);
    installed_once = λ i j s h g. absurd (Has-none _ h);
    controllers = λ k. record { low = opens_low k; given = λ e. absurd cc };
    views = λ r. first_owner;
    said_views = λ x i. absurd (Has-none x i);
    logs = λ r w l h. let g = first_log r w l h in
        subst (λ (x : View). GoodLog f c r x l) (sym g.0) (subst (GoodLog f c r first_view) (sym g.1) (first_log_good r));
    reached = λ r w l h. let g = first_log r w l h in subst (λ (x : View). AtMost x first_view) (sym g.0) (AtMost-refl first_view);
    starts = λ w x h.
        let g = first_start w x h in
        record {
          session = subst (λ (v : View). 1 ≤ v.session) (sym g.0) (omega arith);
          lead = [];
          leads = subst (λ (v : View). LeaderHad f c.past v []) (sym g.0) (had_first (leader_of first_view (2 * f + 1)));
          by = λ apart. absurd (apart g.0);
        };
    entries = λ r v e h. absurd cc;
    chain = λ r v w d e h g. absurd cc;
    between = λ r v w e l h g. absurd cc;
    said = λ x i. absurd (Has-none x i);
    replies = λ p i. absurd (Has-none p i);
    current = λ r l. had_first r;
    own = λ r l. own_good r;
    lines = record {
      submitted_once = λ k l p q h g same. absurd cc;
      submitted_ids = λ q i. absurd (Has-none _ i);
      accepted_once = λ k l client id a b h g. absurd cc;
      accepted_ids = λ client id result i. absurd (Has-none _ i);
      accepted_done = λ client id result i. absurd (Has-none _ i);
      grounds = λ k client id result e. absurd cc;
    };
    clients = λ k. record {
      number = refl;
      replicas = count;
      opened = λ q i. absurd (Has-none q (subst (λ (l : List Request). Has l q) (opening_opens_none config k []) i));
      kept = λ id p i. absurd (Has-none p (subst (λ (l : List Reply). Has l p) (opening_keeps_none config k [] id) i));
      once = λ id r. subst (λ (l : List Reply). counts r (map (λ p. p.replica) l) ≤ 1) (sym (opening_keeps_none config k [] id)) (omega arith);
      recent = λ a i. absurd (Has-none a i);
    };
  }

pub opening_meets : {S : Type 0} (m : Meaning S) → OpeningMeets m
opening_meets m f config count = opening_holds m f config count
