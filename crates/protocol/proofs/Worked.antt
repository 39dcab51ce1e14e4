-- The worked runs: each move may be made, and they end where they should.
use Rattle.std.proofs.Common.{◌≡◌, ℕ, zero, suc, ◌<◌, false, [], ◌∷◌, refl, ap, arith, inl, inr}
use Rattle.std.specs.FinMap as finite
use Rattle.nop_types.specs.declared.view.View.{View}
use Rattle.nop_types.specs.declared.request.Entry.TheVariants.{Req}
use Rattle.nop_types.specs.Meaning.{Meaning}
use Rattle.nop_types.specs.Views.{AtMost, Below, first_view, outranks}
use Rattle.slot_votes.specs.Votes.{with_vote}
use Rattle.client_quorum.specs.OpenRequests.{has_room, open_requests, is_open, kept_for}
use Rattle.execution_laws.proofs.Accounts.{kept_for-insert}
use Rattle.protocol.specs.Conf.{opening, last_normals}
use Rattle.protocol.specs.Runs.{run, MayAll}
use Rattle.protocol.specs.Worked.{three, view, put_request, get_request, gap_run, GapRun, GapRunEnds, session_run, SessionRun}
use Rattle.protocol.specs.Worked.{SessionRunEnds, sync_run, SyncRun, SyncRunEnds, log_sent_run, LogSentRun, LogSentRunEnds}
use Rattle.oum_receiver.proofs.Lone.{front_first, front_second, front_passed, front_early, front_late}

-- the replicas
zero_of : 0 < 3
zero_of = omega arith

one_of : 1 < 3
one_of = omega arith

two_of : 2 < 3
two_of = omega arith

to_leader : Below first_view (view 1 1)
to_leader = record {
  at_most = record { leader = omega arith; session = omega arith };
  apart = λ e. let h = ap (λ (v : View). v.leader) e in omega (arith, h);
}

to_session : Below first_view (view 0 2)
to_session = record {
  at_most = record { leader = omega arith; session = omega arith };
  apart = λ e. let h = ap (λ (v : View). v.session) e in omega (arith, h);
}

leader_to_both : Below (view 1 1) (view 1 2)
leader_to_both = record {
  at_most = record { leader = omega arith; session = omega arith };
  apart = λ e. let h = ap (λ (v : View). v.session) e in omega (arith, h);
}

session_to_both : Below (view 0 2) (view 1 2)
session_to_both = record {
  at_most = record { leader = omega arith; session = omega arith };
  apart = λ e. let h = ap (λ (v : View). v.leader) e in omega (arith, h);
}

-- the first move may be made, and then the others
also : {A B : Type 0} → A → B → A × B
also a b = (a, b)

to_itself : (v : View) → AtMost v v
to_itself v = record { leader = omega arith; session = omega arith }

module _ {S : Type 0} (m : Meaning S) where
  gap_allowed : MayAll m 1 (opening (three 1 2)) (gap_run m)
  unfolding with_vote has_room open_requests is_open kept_for
  gap_allowed =
      also refl
      (also refl
      (also (record { sent = (1, refl); session = omega arith })
      (also (record { sent = (0, refl); session = omega arith })
      (also (two_of, (1, refl))
      (also (two_of, record { normal = refl; no_gap = refl; front = front_first 1 1 put_request })
      (also (two_of, (0, refl))
      (also (two_of, record { normal = refl; no_gap = refl; front = front_second 1 1 put_request get_request })
      (also (zero_of, (0, refl))
      (also (zero_of, record { may_lead = record { normal = refl; leads = refl }; none_waits = refl })
      (also (one_of, record { normal = refl; follows = refl; said = (0, refl) })
      (also (zero_of, record { waits = refl; vote = record { said = (0, refl); within = one_of; apart = λ e. omega (arith, e) } })
      (also (zero_of, record { normal = refl; no_gap = refl; front = front_passed 1 1 get_request })
      (also (record { sent = (0, simp (kept_for-insert, finite.get-empty)); expected = refl })
      (also (record { sent = (1, simp (kept_for-insert, finite.get-empty)); expected = refl })
      (also (record { kept = (1, refl); enough = refl })
      (also (one_of, record { greater = to_leader; given = (0, inl (refl, refl)) })
      (also (two_of, record { greater = to_leader; given = (0, inl (refl, refl)) })
      (also (one_of, record { gathers = refl; change = record { said = (1, refl); within = two_of; apart = λ e. omega (arith, e) } })
      (also (one_of, record { gathers = refl; enough = omega arith })
      (also (two_of, record { said = (0, refl); follows = λ e. omega (arith, e); at_most = to_itself (view 1 1); change = λ e. refl })
      tt))))))))))))))))))))

  gap_ends : GapRun m (run m 1 (opening (three 1 2)) (gap_run m))
  unfolding with_vote
  gap_ends = record {
    first = record { status = refl; view = refl; last_normal = refl; log = refl; sync_point = refl };
    second = record { status = refl; view = refl; last_normal = refl; log = refl; sync_point = refl };
    third = record { status = refl; view = refl; last_normal = refl; log = refl; sync_point = refl };
    lines = refl;
    main = record { held = (1, one_of, refl); greatest = greatest; current = refl };
    history = refl;
  }
    where
      greatest : (r : ℕ) → r < 3 → outranks (last_normals (run m 1 (opening (three 1 2)) (gap_run m)) r) (view 1 1) ≡ false
      greatest zero low = refl
      greatest (suc zero) low = refl
      greatest (suc (suc zero)) low = refl
      greatest (suc (suc (suc r))) low = absurd (omega (arith, low))

  pub gap_run_ends : GapRunEnds m
  gap_run_ends = (gap_allowed, gap_ends)

  session_allowed : MayAll m 1 (opening (three 2 1)) (session_run m)
  unfolding has_room open_requests is_open kept_for
  session_allowed =
      also (record { own = refl; later = omega arith })
      (also (record { own = refl; later = omega arith })
      (also (record { sent = (1, refl); later = omega arith })
      (also refl
      (also (record { sent = (0, refl); session = omega arith })
      (also (one_of, record { greater = to_leader; given = (0, inl (refl, refl)) })
      (also (two_of, record { greater = to_session; given = (1, inr (1, refl)) })
      (also (two_of, (0, refl))
      (also (one_of, record { greater = leader_to_both; given = (1, inr (1, refl)) })
      (also (two_of, record { greater = session_to_both; given = (1, inr (1, refl)) })
      (also (one_of, record { gathers = refl; change = record { said = (1, refl); within = two_of; apart = λ e. omega (arith, e) } })
      (also (one_of, record { gathers = refl; enough = omega arith })
      (also (two_of, record { said = (0, refl); follows = λ e. omega (arith, e); at_most = to_itself (view 1 2); change = λ e. refl })
      (also (two_of, record { normal = refl; no_gap = refl; front = front_early 2 1 put_request })
      (also (one_of, (0, refl))
      (also (one_of, record { normal = refl; no_gap = refl; front = front_late 2 1 put_request })
      (also (record { sent = (1, simp (kept_for-insert, finite.get-empty)); expected = refl })
      (also (record { sent = (0, simp (kept_for-insert, finite.get-empty)); expected = refl })
      (also (record { kept = (1, refl); enough = refl })
      tt))))))))))))))))))

  session_ends : SessionRun m (run m 1 (opening (three 2 1)) (session_run m))
  session_ends = record {
    first = record { status = refl; view = refl; last_normal = refl; log = refl; sync_point = refl };
    second = record { status = refl; view = refl; last_normal = refl; log = refl; sync_point = refl };
    third = record { status = refl; view = refl; last_normal = refl; log = refl; sync_point = refl };
    lines = refl;
    main = record { held = (1, one_of, refl); greatest = greatest; current = refl };
    history = refl;
  }
    where
      greatest : (r : ℕ) → r < 3 → outranks (last_normals (run m 1 (opening (three 2 1)) (session_run m)) r) (view 1 2) ≡ false
      greatest zero low = refl
      greatest (suc zero) low = refl
      greatest (suc (suc zero)) low = refl
      greatest (suc (suc (suc r))) low = absurd (omega (arith, low))

  pub session_run_ends : SessionRunEnds m
  session_run_ends = (session_allowed, session_ends)

  sync_allowed : MayAll m 1 (opening (three 1 1)) (sync_run m)
  unfolding with_vote has_room open_requests is_open kept_for
  sync_allowed =
      also refl
      (also (record { sent = (0, refl); session = omega arith })
      (also (zero_of, (0, refl))
      (also (zero_of, record { normal = refl; no_gap = refl; front = front_first 1 1 put_request })
      (also (one_of, (0, refl))
      (also (one_of, record { normal = refl; no_gap = refl; front = front_first 1 1 put_request })
      (also (two_of, (0, refl))
      (also (two_of, record { normal = refl; no_gap = refl; front = front_first 1 1 put_request })
      (also (zero_of, record { may_lead = record { normal = refl; leads = refl }; no_gap = refl; longer = omega arith })
      (also (one_of, record { normal = refl; follows = refl; said = (0, refl) })
      (also (
        zero_of,
        record {
          may_lead = record { normal = refl; leads = refl };
          vote = record
              { said = (0, refl); within = one_of; apart = λ e. omega (arith, e) };
        },
      )
      (also (two_of, record { normal = refl; follows = refl; said = (2, refl) })
      (also (two_of, record { may_follow = record { normal = refl; follows = refl; said = (1, refl) }; within = omega arith })
      tt))))))))))))

  sync_ends : SyncRun m (run m 1 (opening (three 1 1)) (sync_run m))
  unfolding with_vote
  sync_ends = record {
    first = record { status = refl; view = refl; last_normal = refl; log = refl; sync_point = refl };
    second = record { status = refl; view = refl; last_normal = refl; log = refl; sync_point = refl };
    third = record { status = refl; view = refl; last_normal = refl; log = refl; sync_point = refl };
    lines = refl;
    main = record { held = (0, zero_of, refl); greatest = greatest; current = refl };
    history = refl;
  }
    where
      greatest : (r : ℕ) → r < 3 → outranks (last_normals (run m 1 (opening (three 1 1)) (sync_run m)) r) first_view ≡ false
      greatest zero low = refl
      greatest (suc zero) low = refl
      greatest (suc (suc zero)) low = refl
      greatest (suc (suc (suc r))) low = absurd (omega (arith, low))

  pub sync_run_ends : SyncRunEnds m
  sync_run_ends = (sync_allowed, sync_ends)

  log_sent_allowed : MayAll m 1 (run m 1 (opening (three 1 1)) (sync_run m)) (log_sent_run m)
  unfolding with_vote
  log_sent_allowed =
      also (
        zero_of,
        record {
          true = record {
            sender = refl;
            start = record { next = 1; log = [] };
            is_start = refl;
            lead = Req put_request ∷ [];
            leads = refl;
            begins = ([], refl);
            settled = λ longer noop. absurd cc;
          };
          point = (refl, omega arith);
        },
      )
      (also (one_of, record { normal = refl; follows = refl; said = (0, refl) })
      tt)

  log_sent_ends : LogSentRun m (run m 1 (run m 1 (opening (three 1 1)) (sync_run m)) (log_sent_run m))
  unfolding with_vote
  log_sent_ends = record {
    second = record { status = refl; view = refl; last_normal = refl; log = refl; sync_point = refl };
    replies = refl;
  }

  pub log_sent_run_ends : LogSentRunEnds m
  log_sent_run_ends = (log_sent_allowed, log_sent_ends)
