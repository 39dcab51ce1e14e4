use Rattle.std.proofs.Common.{◌+◌, ◌-◌, ◌^◌, min, ℕ, List, Bor, length, ap, sym, ◌∙◌}
use Rattle.std.specs.List.{sum_by}
use Rattle.std.proofs.lemmas.List.{take_all}
use Rattle.kv_host.proofs.RowLemmas.{length-rows}
use Rattle.kv_host.proofs.saved.saved_len.Goals as goal

pub returns : goal.returns
returns c =
    c.loop-key.invariant
    ∙ ap
    (λ (rows : List (Bor (List ℕ) × Bor (List ℕ))). min (4 + sum_by (λ r. 4 + length r.0.now + length r.1.now) rows) (2 ^ 64 - 1))
    (take_all c.loop-key.key-index c.args.rows.now c.loop-key-test.false)
    ∙ ap (λ (n : ℕ). min (4 + n) (2 ^ 64 - 1)) (sym (length-rows c.args.rows.now))
