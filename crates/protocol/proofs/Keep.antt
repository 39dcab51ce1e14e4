-- The move of a client that keeps a reply.
use Rattle.std.proofs.Common.{◌≡◌, ℕ, ◌<◌, ◌≤◌, true, not, refl, sym, subst, inl, inr, arith, List, [], ◌∷◌, map}
use Rattle.std.specs.Prelude.{◌==◌, ◌&&◌, nat_lt, filter}
use Rattle.std.proofs.lemmas.Bool.{cases_eq, eqb-true, and_parts}
use Rattle.std.proofs.lemmas.Bool.Decides.{nat_tests}
use Rattle.std.proofs.lemmas.List.{append-nil}
use Rattle.nop_types.specs.declared.request.Request.{Request}
use Rattle.nop_types.specs.declared.datagram.Reply.{Reply}
use Rattle.nop_types.specs.Lists.{Has}
use Rattle.nop_types.specs.Meaning.{Meaning}
use Rattle.lemmas.proofs.Members.{Has-append_cases, Has-one, Has-none, Has-from_filter}
use Rattle.started_views.specs.Quorums.{counts}
use Rattle.lemmas.proofs.Prefixes.{IsPrefixOf-refl}
use Rattle.client_quorum.specs.declared.state.ClientState.{ClientState}
use Rattle.client_quorum.specs.ClientSteps.{kept}
use Rattle.client_quorum.specs.KeptReplies.{keep_reply}
use Rattle.client_quorum.specs.OpenRequests.{IsOpen, is_open, kept_for}
use Rattle.client_quorum.specs.Rows.{IsKept}
use Rattle.client_quorum.proofs.OpenRequests.{expected_is_open, keeps}
use Rattle.protocol.specs.Conf.{Conf}
use Rattle.protocol.specs.Evolves.{Evolves}
use Rattle.protocol.specs.Moves.{keep, MayKeep}
use Rattle.protocol.specs.Invariant.{KeptReply, GoodClient, Inv}
use Rattle.protocol.proofs.Clients.{lines_with_others}
use Rattle.protocol.proofs.Facts.{counts_filter, counts_push, counts_left_out}
use Rattle.protocol.proofs.Growing.{Kept}
use Rattle.protocol.proofs.Outside.{outside_keeps}
use Rattle.lemmas.proofs.Functions.{put-all}
use Rattle.protocol.proofs.Stays.{onward_refl, client_lasts}

less_from : (a b : ℕ) → nat_lt a b ≡ true → a < b
less_from a b e = grind (arith, nat_tests, e)

module _ {S : Type 0} (m : Meaning S) (f : ℕ) (c : Conf) (inv : Inv m f c) (k : ℕ) (p : Reply) (may : MayKeep c k p) where
  abbrev s : ClientState
  s = c.clients k

  abbrev d : Conf
  d = keep c k p

  good : GoodClient f c k s
  good = inv.clients k

  new_kept : KeptReply f c.replies s.number p.id p
  new_kept =
      let a = and_parts (p.client == s.number) (is_open s p.id && nat_lt p.replica s.config.replicas) may.expected in
      let b = and_parts (is_open s p.id) (nat_lt p.replica s.config.replicas) a.1 in
      record {
        sent = may.sent;
        replica = omega (arith, less_from p.replica s.config.replicas b.1, good.replicas);
        client = eqb-true p.client s.number a.0;
        id = refl;
      }

  -- what is kept for its id, and for others, and that nothing else is open
  now : IsKept s (kept s p) p
  now = keeps s p (expected_is_open s p may.expected)

  abbrev older : List Reply
  older = filter (λ x. not (x.replica == p.replica)) (kept_for s p.id)

  here_kept : (y : Reply) → Has (keep_reply (kept_for s p.id) p) y → KeptReply f c.replies s.number p.id y
  here_kept y i = elim (Has-append_cases older (p ∷ []) y i) [
    | inl old ↦ good.kept p.id y (Has-from_filter (λ x. not (x.replica == p.replica)) y (kept_for s p.id) old).0
    | inr new ↦ subst (KeptReply f c.replies s.number p.id) (sym (Has-one y p new)) new_kept
  ]

  all_kept : (id : ℕ) (y : Reply) → Has (kept_for (kept s p) id) y → KeptReply f c.replies s.number id y
  all_kept id y i = elim (cases_eq id p.id) [
    | inl e ↦
        let at : Has (kept_for (kept s p) p.id) y = subst (λ (n : ℕ). Has (kept_for (kept s p) n) y) e i in
        subst (λ (n : ℕ). KeptReply f c.replies s.number n y) (sym e) (here_kept y (subst (λ (l : List Reply). Has l y) now.here at))
    | inr a ↦ good.kept id y (subst (λ (l : List Reply). Has l y) (now.others id a) i)
  ]

  here_once : (r : ℕ) → counts r (map (λ x. x.replica) (keep_reply (kept_for s p.id) p)) ≤ 1
  here_once r =
      let pushed = counts_push (λ (x : Reply). x.replica) older p r in
      let less = counts_filter (λ (x : Reply). x.replica) (λ x. not (x.replica == p.replica)) (kept_for s p.id) r in
      let most = good.once p.id r in
      elim (cases_eq p.replica r) [
        | inl e ↦
            let none : counts r (map (λ (x : Reply). x.replica) older) ≡ 0 =
            subst (λ (i : ℕ). counts i (map (λ (x : Reply). x.replica) older) ≡ 0) e
            (counts_left_out (λ (x : Reply). x.replica) (kept_for s p.id) p.replica) in
            grind (arith, nat_tests, pushed, none)
        | inr a ↦ grind (arith, nat_tests, pushed, less, most, a)
      ]

  once : (id r : ℕ) → counts r (map (λ x. x.replica) (kept_for (kept s p) id)) ≤ 1
  once id r = elim (cases_eq id p.id) [
    | inl e ↦
        subst (λ (n : ℕ). counts r (map (λ x. x.replica) (kept_for (kept s p) n)) ≤ 1) (sym e)
        (subst (λ (l : List Reply). counts r (map (λ x. x.replica) l) ≤ 1) (sym now.here) (here_once r))
    | inr a ↦ subst (λ (l : List Reply). counts r (map (λ x. x.replica) l) ≤ 1) (sym (now.others id a)) (good.once id r)
  ]

  as_before : (q : Request) → IsOpen (kept s p) q → IsOpen s q
  as_before q i = subst (λ (l : List Request). Has l q) now.requests i

  good_client : Evolves f c d → GoodClient f d k (kept s p)
  good_client ev =
      let g = client_lasts m f c d ev k s good in
      record {
        number = g.number;
        replicas = g.replicas;
        opened = λ q i. g.opened q (as_before q i);
        kept = λ id y i. let t = all_kept id y i in
            record { sent = ev.sent.replies y t.sent; replica = t.replica; client = t.client; id = t.id };
        once = once;
        recent = g.recent;
      }

  pub keep_keeps : Kept m f c d
  keep_keeps = outside_keeps m f c inv (record {
    sequencers = c.sequencers;
    clients = d.clients;
    controllers = c.controllers;
    requests = c.requests;
    stamps = c.stamps;
    installs = c.installs;
    lines = c.lines;
  })
      (record {
        requests = λ x i. i;
        stamps = λ x i. i;
        installs = λ x i. i;
        lines = IsPrefixOf-refl c.lines;
        sequencers = λ j. onward_refl (c.sequencers j);
        controllers = λ i. omega arith;
        last_ids = put-all (λ i t. (c.clients i).last_id ≤ t.last_id) c.clients k (kept s p) (omega arith) (λ i a. omega arith);
      })
      (λ ev. record {
        requests = λ x i. inl i;
        stamps = λ x i. inl i;
        stamped_once = inv.stamped_once;
        sequencers = inv.sequencers;
        installs = λ x i. let t = inv.installs x i in record { low = t.low; known = t.known; current = t.current };
        installed_once = inv.installed_once;
        controllers = inv.controllers;
        lines = lines_with_others m f c d [] ev
            (put-all (λ i t. (q : Request) → IsOpen t q → IsOpen (c.clients i) q) c.clients k (kept s p) as_before (λ i a q e. e))
            (λ line i. absurd (Has-none line i)) (sym (append-nil c.lines)) inv.lines;
        clients = put-all (GoodClient f d) c.clients k (kept s p) (good_client ev)
            (λ i a. client_lasts m f c d ev i (c.clients i) (inv.clients i));
      })
