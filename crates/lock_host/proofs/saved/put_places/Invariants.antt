use Rattle.std.proofs.Common.{◌≡◌, ◌++◌, take}
use Rattle.std.specs.List.{flat_map}
use Rattle.lock_host.specs.Saved.{place_bytes}
use Rattle.lock_host.proofs.saved.put_places.Given as goal

abbrev pub invariant-loop-place : goal.invariant-loop-place
invariant-loop-place l = l.to.items ≡ l.fn.to.items ++ flat_map place_bytes (take l.place-index l.places)
