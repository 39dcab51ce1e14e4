-- Checkpoints that are read are those that were written, and what was written is read again.
use Rattle.std.proofs.Common.{◌≡◌, ℕ, zero, suc, ◌+◌, ◌≤◌, true, List, [], ◌∷◌, ◌++◌, length, Ok, refl, sym, ap, subst, ◌∙◌}
use Rattle.std.proofs.Common.{append_assoc, arith}
use Rattle.std.specs.Prelude.{nat_le, ◌&&◌, map, All}
use Rattle.std.specs.Int.{w32, w64}
use Rattle.std.specs.List.{flat_map, AllByRecursion}
use Rattle.std.proofs.lemmas.Bool.{and_from, and_parts}
use Rattle.std.proofs.lemmas.Bool.Decides.{nat_tests}
use Rattle.std.proofs.lemmas.List.{length-map}
use Rattle.std.proofs.lemmas.List.Concat.{flat_map-cons}
use Rattle.std.proofs.lemmas.List.Elements.{All-nil, All-cons}
use Rattle.std.proofs.lemmas.List.Folds.{flat_map-map}
use Rattle.nop_types.specs.Checkpoints.{Checkpoint, saved_account, is_kept, are_answers, is_account, are_saved, IsSavedAccount}
use Rattle.nop_types.specs.Checkpoints.{CheckpointFits}
use Rattle.nop_types.specs.Tables.{Account}
use Rattle.nop_types.specs.declared.checkpoint.SavedClient.{SavedClient}
use Rattle.nop_types.specs.declared.limits.TheConstants.{MAX_HOST_BYTES, MAX_RESULT_BYTES, MAX_SERVED, WINDOW}
use Rattle.lemmas.proofs.Kept.{kept_from_one, runs_from_one, greatest_is_low, kept_count}
use Rattle.oum_codec.specs.Numbers.{IsBytes, be_bytes}
use Rattle.oum_codec.proofs.Steps.{bind_ok, ok_is}
use Rattle.oum_codec.proofs.Numbers.{Takes, Takes-then}
use Rattle.peer_codec.specs.Spelling.{answered_bytes, account_bytes, accounts_bytes, checkpoint_bytes}
use Rattle.peer_codec.specs.Fields.{host_at, served_at, client_at, id_at, kept_count_at}
use Rattle.peer_codec.specs.Logs.{kept_at, least_id, account_at, accounts_at, checkpoint_at}
use Rattle.peer_codec.proofs.EachField.{host_takes, host_again, served_takes, served_again, client_takes, client_again, id_takes, id_again}
use Rattle.peer_codec.proofs.EachField.{kept_count_takes, kept_count_again}
use Rattle.peer_codec.proofs.KeptResults.{kept_takes, kept_again, kept_short}

-- ---- one client

-- a client that was read, from a number on
pub record AccountFits (least : ℕ) (e : ℕ × Account) : Type 0 where
  pub is_saved : IsSavedAccount e
  pub low : least ≤ e.0
  pub account : is_account e.1 ≡ true

account_takes : (least : ℕ) (bytes : List ℕ) (x : (ℕ × Account) × List ℕ) → IsBytes bytes → account_at least bytes ≡ Ok x
    → Takes bytes (account_bytes x.0) x.1 × AccountFits least x.0
unfolding account_at
account_takes least bytes x fits e =
    let a = bind_ok (client_at least bytes) _ x e in
    let b = bind_ok (id_at a.0.1) _ x a.2 in
    let c = bind_ok (kept_count_at b.0.1) _ x b.2 in
    let d = bind_ok (kept_at c.0.0 (least_id b.0.0) b.0.0 c.0.1) _ x c.2 in
    let t0 = client_takes least bytes a.0 fits a.1 in
    let t1 = id_takes a.0.1 b.0 t0.0.rest_fits b.1 in
    let t2 = kept_count_takes b.0.1 c.0 t1.0.rest_fits c.1 in
    let t3 = kept_takes c.0.0 (least_id b.0.0) b.0.0 c.0.1 d.0 t2.1.low t2.0.rest_fits d.1 in
    let e1 = Takes-then bytes _ _ _ _ t0.0 t1.0 in
    let counted : Takes b.0.1 (length d.0.0 ∷ []) c.0.1 = subst (λ (n : ℕ). Takes b.0.1 (n ∷ []) c.0.1) (sym t3.count) t2.0 in
    let e2 = Takes-then bytes _ _ _ _ e1 counted in
    let e3 = Takes-then bytes _ _ _ _ e2 t3.takes in
    let kept : Account = record { greatest = b.0.0; kept = d.0.0 } in
    let account : is_account kept ≡ true =
    and_from (is_kept kept) (are_answers d.0.0) (kept_from_one b.0.0 d.0.0 t1.1.low t3.runs) (t3.each (omega arith)) in
    let made : (ℕ × Account) × List ℕ = ((a.0.0, kept), d.0.1) in
    subst (λ (y : (ℕ × Account) × List ℕ). Takes bytes (account_bytes y.0) y.1 × AccountFits least y.0) (ok_is made x d.2)
    (e3, record { is_saved = record { client = t0.1.high; greatest = t1.1.high }; low = t0.1.low; account = account })

account_again : (least : ℕ) (e : ℕ × Account) (rest : List ℕ) → AccountFits least e
    → account_at least (account_bytes e ++ rest) ≡ Ok (e, rest)
unfolding account_at
account_again least e rest fits =
    let parts = and_parts (is_kept e.1) (are_answers e.1.kept) fits.account in
    let count = kept_count e.1 parts.0 in
    let head : List ℕ = be_bytes w32 e.0 ++ be_bytes w64 e.1.greatest in
    let results : List ℕ = flat_map answered_bytes e.1.kept in
    let after : List ℕ = length e.1.kept ∷ (results ++ rest) in
    let regrouped : account_bytes e ++ rest ≡ be_bytes w32 e.0 ++ (be_bytes w64 e.1.greatest ++ after) =
    append_assoc (head ++ length e.1.kept ∷ []) results rest
    ∙ append_assoc head (length e.1.kept ∷ []) (results ++ rest)
    ∙ append_assoc (be_bytes w32 e.0) (be_bytes w64 e.1.greatest) after in
    ap (account_at least) regrouped
    ∙ rw (
      client_again least e.0 (be_bytes w64 e.1.greatest ++ after) fits.low fits.is_saved.client,
      id_again e.1.greatest after (greatest_is_low e.1 fits.account) fits.is_saved.greatest,
      kept_count_again (length e.1.kept) (results ++ rest) count.0 count.1,
      kept_again (least_id e.1.greatest) e.1.greatest e.1.kept rest (runs_from_one e.1 fits.account) parts.1 fits.is_saved.greatest,
    ) refl

-- ---- clients, ascending

pub record TakesAccounts (n least : ℕ) (bytes : List ℕ) (x : List (ℕ × Account) × List ℕ) : Type 0 where
  pub takes : Takes bytes (flat_map account_bytes x.0) x.1
  pub count : length x.0 ≡ n
  pub each : AllByRecursion IsSavedAccount x.0
  pub saved : are_saved least x.0 ≡ true

pub accounts_take : (n least : ℕ) (bytes : List ℕ) (x : List (ℕ × Account) × List ℕ) → IsBytes bytes → accounts_at n least bytes ≡ Ok x
    → TakesAccounts n least bytes x
unfolding accounts_at
accounts_take zero least bytes x fits e =
    subst (TakesAccounts zero least bytes) (ok_is ([], bytes) x e)
    (record { takes = record { parts = refl; rest_fits = fits }; count = refl; each = tt; saved = refl })
accounts_take (suc n) least bytes x fits e =
    let a = bind_ok (account_at least bytes) _ x e in
    let b = bind_ok (accounts_at n (a.0.0.0 + 1) a.0.1) _ x a.2 in
    let first = account_takes least bytes a.0 fits a.1 in
    let second = accounts_take n (a.0.0.0 + 1) a.0.1 b.0 first.0.rest_fits b.1 in
    let both = Takes-then bytes (account_bytes a.0.0) a.0.1 (flat_map account_bytes b.0.0) b.0.1 first.0 second.takes in
    let made : List (ℕ × Account) × List ℕ = (a.0.0 ∷ b.0.0, b.0.1) in
    let low : nat_le least a.0.0.0 ≡ true = grind (arith, nat_tests, first.1.low) in
    subst (TakesAccounts (suc n) least bytes) (ok_is made x b.2)
    (record {
      takes = rw flat_map-cons both;
      count = ap suc second.count;
      each = (first.1.is_saved, second.each);
      saved =
          and_from (nat_le least a.0.0.0) (is_account a.0.0.1 && are_saved (a.0.0.0 + 1) b.0.0) low
          (and_from (is_account a.0.0.1) (are_saved (a.0.0.0 + 1) b.0.0) first.1.account second.saved);
    })

-- the first of clients, and the others
pub first_fits : (least : ℕ) (e : ℕ × Account) (es : List (ℕ × Account)) → IsSavedAccount e → are_saved least (e ∷ es) ≡ true
    → AccountFits least e × (are_saved (e.0 + 1) es ≡ true)
first_fits least e es is_saved saved =
    let outer = and_parts (nat_le least e.0) (is_account e.1 && are_saved (e.0 + 1) es) saved in
    let inner = and_parts (is_account e.1) (are_saved (e.0 + 1) es) outer.1 in
    let low : least ≤ e.0 = grind (arith, nat_tests, outer.0) in
    (record { is_saved = is_saved; low = low; account = inner.0 }, inner.1)

accounts_again : (least : ℕ) (es : List (ℕ × Account)) (rest : List ℕ) → AllByRecursion IsSavedAccount es → are_saved least es ≡ true
    → accounts_at (length es) least (flat_map account_bytes es ++ rest) ≡ Ok (es, rest)
unfolding accounts_at
accounts_again least [] rest each saved = refl
accounts_again least (e ∷ es) rest each saved =
    let fits = first_fits least e es each.0 saved in
    let regrouped : flat_map account_bytes (e ∷ es) ++ rest ≡ account_bytes e ++ (flat_map account_bytes es ++ rest) =
    ap (λ (x : List ℕ). x ++ rest) (flat_map-cons account_bytes e es) ∙ append_assoc (account_bytes e) (flat_map account_bytes es) rest in
    ap (accounts_at (suc (length es)) least) regrouped
    ∙ rw (account_again least e (flat_map account_bytes es ++ rest) fits.0, accounts_again (e.0 + 1) es rest each.1 fits.1) refl

-- the clients of a vector, as they are spelled
pub accounts_saved : (cs : List SavedClient) → accounts_bytes (map saved_account cs)
    ≡ be_bytes w32 (length cs) ++ flat_map (λ c. account_bytes (saved_account c)) cs
accounts_saved cs =
    ap (λ (n : ℕ). be_bytes w32 n ++ flat_map account_bytes (map saved_account cs)) (length-map cs saved_account)
    ∙ ap (λ (t : List ℕ). be_bytes w32 (length cs) ++ t) (flat_map-map account_bytes saved_account cs)

-- ---- checkpoints

pub record IsWithinLimits (c : Checkpoint) : Type 0 where
  pub host : length c.host ≤ MAX_HOST_BYTES
  pub few : length c.clients ≤ MAX_SERVED
  pub saved : are_saved 0 c.clients ≡ true

pub within_limits : (c : Checkpoint) → CheckpointFits c → IsWithinLimits c
within_limits c fits =
    let outer = and_parts (nat_le (length c.host) MAX_HOST_BYTES) (nat_le (length c.clients) MAX_SERVED && are_saved 0 c.clients) fits.limits in
    let inner = and_parts (nat_le (length c.clients) MAX_SERVED) (are_saved 0 c.clients) outer.1 in
    let host : length c.host ≤ MAX_HOST_BYTES = grind (arith, nat_tests, outer.0) in
    let few : length c.clients ≤ MAX_SERVED = grind (arith, nat_tests, inner.0) in
    record { host = host; few = few; saved = inner.1 }

-- clients in a vector that are those of a checkpoint
pub clients_few : (c : Checkpoint) (cs : List SavedClient) → CheckpointFits c → map saved_account cs ≡ c.clients → length cs ≤ MAX_SERVED
clients_few c cs fits are = omega (arith, (within_limits c fits).few, ap length are, length-map cs saved_account)

-- what holds of each account that may be kept
each_client : (P : SavedClient → Type 0) → ((c : SavedClient) → is_account (saved_account c).1 ≡ true → P c) → (least : ℕ)
    (cs : List SavedClient) → are_saved least (map saved_account cs) ≡ true → All P cs
each_client P each least [] saved = All-nil P
each_client P each least (c ∷ cs) saved =
    let others : List (ℕ × Account) = map saved_account cs in
    let outer = and_parts (nat_le least c.client) (is_account (saved_account c).1 && are_saved (c.client + 1) others) saved in
    let inner = and_parts (is_account (saved_account c).1) (are_saved (c.client + 1) others) outer.1 in
    All-cons P c cs (each c inner.0) (each_client P each (c.client + 1) cs inner.1)

clients_saved : (c : Checkpoint) (cs : List SavedClient) → CheckpointFits c → map saved_account cs ≡ c.clients
    → are_saved 0 (map saved_account cs) ≡ true
clients_saved c cs fits are = subst (λ (es : List (ℕ × Account)). are_saved 0 es ≡ true) (sym are) (within_limits c fits).saved

pub clients_keep_few : (c : Checkpoint) (cs : List SavedClient) → CheckpointFits c → map saved_account cs ≡ c.clients
    → All (λ c. length c.kept.items ≤ WINDOW) cs
clients_keep_few c cs fits are =
    each_client (λ c. length c.kept.items ≤ WINDOW)
    (λ c h. (kept_count (saved_account c).1 (and_parts (is_kept (saved_account c).1) (are_answers c.kept.items) h).0).1) 0 cs
    (clients_saved c cs fits are)

pub clients_short : (c : Checkpoint) (cs : List SavedClient) → CheckpointFits c → map saved_account cs ≡ c.clients
    → All (λ c. All (λ a. length a.result ≤ MAX_RESULT_BYTES) c.kept.items) cs
clients_short c cs fits are =
    each_client (λ c. All (λ a. length a.result ≤ MAX_RESULT_BYTES) c.kept.items)
    (λ c h. kept_short c.kept.items (and_parts (is_kept (saved_account c).1) (are_answers c.kept.items) h).1) 0 cs
    (clients_saved c cs fits are)

pub checkpoint_takes : (bytes : List ℕ) (x : Checkpoint × List ℕ) → IsBytes bytes → checkpoint_at bytes ≡ Ok x
    → Takes bytes (checkpoint_bytes x.0) x.1 × CheckpointFits x.0
unfolding checkpoint_at
checkpoint_takes bytes x fits e =
    let a = bind_ok (host_at bytes) _ x e in
    let b = bind_ok (served_at a.0.1) _ x a.2 in
    let c = bind_ok (accounts_at b.0.0 0 b.0.1) _ x b.2 in
    let t0 = host_takes bytes a.0 fits a.1 in
    let t1 = served_takes a.0.1 b.0 t0.0.rest_fits b.1 in
    let t2 = accounts_take b.0.0 0 b.0.1 c.0 t1.0.rest_fits c.1 in
    let counted = Takes-then a.0.1 (be_bytes w32 b.0.0) b.0.1 (flat_map account_bytes c.0.0) c.0.1 t1.0 t2.takes in
    let clients : Takes a.0.1 (accounts_bytes c.0.0) c.0.1 =
    subst (λ (n : ℕ). Takes a.0.1 (be_bytes w32 n ++ flat_map account_bytes c.0.0) c.0.1) (sym t2.count) counted in
    let both = Takes-then bytes _ _ _ _ t0.0 clients in
    let host : nat_le (length a.0.0) MAX_HOST_BYTES ≡ true = grind (arith, nat_tests, t0.1) in
    let few : nat_le (length c.0.0) MAX_SERVED ≡ true = rw t2.count (grind (arith, nat_tests, t1.1)) in
    let made : Checkpoint × List ℕ = (record { host = a.0.0; clients = c.0.0 }, c.0.1) in
    subst (λ (y : Checkpoint × List ℕ). Takes bytes (checkpoint_bytes y.0) y.1 × CheckpointFits y.0) (ok_is made x c.2)
    (both, record { limits = rw (host, few, t2.saved) refl; clients = t2.each })

pub checkpoint_again : (c : Checkpoint) (rest : List ℕ) → CheckpointFits c → checkpoint_at (checkpoint_bytes c ++ rest) ≡ Ok (c, rest)
unfolding checkpoint_at
checkpoint_again c rest fits =
    let within = within_limits c fits in
    let after : List ℕ = flat_map account_bytes c.clients ++ rest in
    let counted : List ℕ = be_bytes w32 (length c.clients) ++ after in
    let regrouped : checkpoint_bytes c ++ rest ≡ be_bytes w32 (length c.host) ++ c.host ++ counted =
    append_assoc (be_bytes w32 (length c.host) ++ c.host) (accounts_bytes c.clients) rest
    ∙ ap (λ (t : List ℕ). be_bytes w32 (length c.host) ++ c.host ++ t)
    (append_assoc (be_bytes w32 (length c.clients)) (flat_map account_bytes c.clients) rest) in
    ap checkpoint_at regrouped
    ∙ rw (
      host_again c.host counted within.host,
      served_again (length c.clients) after within.few,
      accounts_again 0 c.clients rest fits.clients within.saved,
    ) refl
