-- The entries that moved out of the logs of replicas, each once, in the order of their slots.
use Rattle.std.specs.Prelude.{ℕ, ◌+◌, ◌-◌, List, [], ◌∷◌, ◌++◌, length, take, drop}
use Rattle.nop_types.specs.declared.output.Out.{Out}
use Rattle.nop_types.specs.declared.output.Out.TheVariants as outs
use Rattle.nop_types.specs.declared.request.Entry.{Entry}
use Rattle.nop_types.specs.Logs.{Log}
use Rattle.network.specs.Network.{Did, Nothing, Outputs}

-- entries from a slot on: those past the archive's end are appended
abbrev pub with_entries : List Entry → ℕ → List Entry → List Entry
with_entries archive first entries = archive ++ drop (length archive + 1 - first) entries

-- all that moved out in a step
abbrev pub with_outs : List Entry → List Out → List Entry
with_outs archive [] = archive
with_outs archive (outs.Trimmed first entries ∷ rest) = with_outs (with_entries archive first entries.entries) rest
with_outs archive (_ ∷ rest) = with_outs archive rest

abbrev pub archived : List Entry → Did → List Entry
archived archive Nothing = archive
archived archive (Outputs os) = with_outs archive os

-- a log with its first entries, up to its sync point
abbrev pub with_archive : List Entry → Log → List Entry
with_archive archive l = take l.sync_point archive ++ l.entries
