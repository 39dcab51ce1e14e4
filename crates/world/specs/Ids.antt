-- The table of a log's clients, which no host tells: ids without results.
use Rattle.std.specs.Prelude.{◌≡◌, List, [], ◌∷◌, ◌++◌, None, ⊤}
use Rattle.nop_types.specs.declared.request.Entry.{Entry}
use Rattle.nop_types.specs.declared.request.Request.{Request}
use Rattle.nop_types.specs.Meaning.{Meaning}
use Rattle.nop_types.specs.Tables.{Table}
use Rattle.nop_types.specs.Execution.{exec}
use Rattle.nop_types.specs.Histories.{new_in}

-- a host that does nothing: which requests of a log are executed rests on no host
abbrev pub silent : Meaning ⊤
silent = record {
  opening = tt;
  after = λ s op. s;
  answer = λ s op. [];
  saved = λ s. [];
  loaded = λ bytes. None;
}

abbrev pub table_after : List Entry → Table
table_after log = (exec silent log).table

-- one more entry, after whatever log the table is of
pub record Adds (table new : Table) (requests more : List Request) (e : Entry) : Type 0 where
  pub members : (log : List Entry) → table ≡ table_after log → more ≡ requests ++ new_in log e
  pub next : (log : List Entry) → table ≡ table_after log → new ≡ table_after (log ++ e ∷ [])
