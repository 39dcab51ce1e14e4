-- The client table: what an execution keeps for each client.
use Rattle.std.specs.Prelude.{ℕ, ◌+◌, ◌&&◌, ◌||◌, ◌==◌, List, [], ◌∷◌, map, Option, Some, None, Bool, true, not, cond, max, nat_lt, is_some, refl}
use Rattle.std.specs.List.{filter}
use Rattle.std.specs.Ordering.{nat_cmp}
use Rattle.std.specs.Coded.{Coded, code_by, coded×, coded_ℕ, coded_list}
use Rattle.std.specs.FinMap as finite
use Rattle.nop_types.specs.declared.limits.TheConstants.{MAX_SERVED}
use Rattle.nop_types.specs.declared.checkpoint.Answered.{Answered}
use Rattle.nop_types.specs.Lists.{is_in}

-- a client's greatest executed id, and the results of its executed ids less than a window behind that one, ids ascending
pub record Account : Type 0 where
  pub greatest : ℕ
  pub kept : List Answered

-- a client that has executed nothing is not in it
abbrev pub Table : Type 0
Table = finite.FinMap nat_cmp Account

abbrev pub kept_for : Table → ℕ → Option Account
kept_for table client = finite.get table client

-- ---- what an account says of an id

abbrev pub kept_ids : List Answered → List ℕ
kept_ids kept = map (λ a. a.id) kept

-- the result that is kept with an id
abbrev pub result_in : List Answered → ℕ → Option (List ℕ)
result_in [] id = None
result_in (a ∷ kept) id = cond (a.id == id) (Some a.result) (result_in kept id)

abbrev pub result_kept : Option Account → ℕ → Option (List ℕ)
result_kept None id = None
result_kept (Some a) id = result_in a.kept id

-- the id plus the window exceeds the greatest one, and no result is kept with it
abbrev pub is_new_to : ℕ → Option Account → ℕ → Bool
is_new_to window None id = true
is_new_to window (Some a) id = nat_lt a.greatest (id + window) && not (is_in (kept_ids a.kept) id)

-- the client has an account, or may have one: as many clients as are served have none yet
abbrev pub serves : Table → ℕ → Bool
serves table client = is_some (kept_for table client) || nat_lt (finite.len table) MAX_SERVED

-- ---- a result more

-- in its place by its id
abbrev pub with_answered : Answered → List Answered → List Answered
with_answered a [] = a ∷ []
with_answered a (k ∷ kept) = cond (nat_lt a.id k.id) (a ∷ k ∷ kept) (k ∷ with_answered a kept)

-- those less than a window behind the greatest id
abbrev pub within : ℕ → ℕ → List Answered → List Answered
within window greatest kept = filter (λ a. nat_lt greatest (a.id + window)) kept

-- those that a greatest id leaves behind
abbrev pub beyond : ℕ → ℕ → List Answered → List Answered
beyond window greatest kept = filter (λ a. not (nat_lt greatest (a.id + window))) kept

-- all but that of this id
abbrev pub without : ℕ → List Answered → List Answered
without id kept = filter (λ a. not (a.id == id)) kept

abbrev pub account_with : ℕ → Option Account → Answered → Account
account_with window None a = record { greatest = a.id; kept = a ∷ [] }
account_with window (Some old) a = record {
  greatest = max old.greatest a.id;
  kept = within window (max old.greatest a.id) (with_answered a old.kept);
}

abbrev pub with_result : ℕ → Table → ℕ → Answered → Table
with_result window table client a = finite.insert table client (account_with window (kept_for table client) a)

-- ---- as a value in memory

abbrev pub answered_code : Coded Answered
answered_code =
    code_by (ℕ × List ℕ) (coded× coded_ℕ (coded_list coded_ℕ)) (λ a. (a.id, a.result)) (λ p. record { id = p.0; result = p.1 }) (λ _. refl)

abbrev pub account_code : Coded Account
account_code =
    code_by (ℕ × List Answered) (coded× coded_ℕ (coded_list answered_code)) (λ a. (a.greatest, a.kept)) (λ p. record {
      greatest = p.0;
      kept = p.1;
    }) (λ _. refl)
