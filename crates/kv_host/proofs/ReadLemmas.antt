-- An op that is spelled is read.
use Rattle.std.proofs.Common.{◌≡◌, ℕ, List, ◌∷◌, ◌++◌, refl, sym, ap, subst, ◌∙◌}
use Rattle.kv_host.specs.declared.op.TheConstants.{GET, PUT, DELETE, SWAP}
use Rattle.kv_host.specs.Op.{Op, Get, Put, Delete, Swap, Bad, read_get, read_put, read_delete, read_swap, read_op}
use Rattle.kv_host.specs.Spelling.{KeyFits, ValueFits, OpFits, field, Spells}
use Rattle.kv_host.specs.Reading.{first_key, last_key, first_value, last_value}
use Rattle.kv_host.specs.Reading as reading

-- an op that was read has its fields within their limits
pub read_fits : (op : Op) (bytes : List ℕ) → op ≡ read_op bytes → OpFits op
read_fits op bytes e = subst OpFits (sym e) (reading.read_fits bytes)

spelled_get : (key : List ℕ) → KeyFits key → read_op (GET ∷ field key) ≡ Get key
unfolding read_op read_get
spelled_get key k = rw (last_key key k) refl

spelled_put : (key value : List ℕ) → KeyFits key → ValueFits value → read_op (PUT ∷ (field key ++ field value)) ≡ Put key value
unfolding read_op read_put
spelled_put key value k v = rw (first_key key (field value) k, last_value value v) refl

spelled_delete : (key : List ℕ) → KeyFits key → read_op (DELETE ∷ field key) ≡ Delete key
unfolding read_op read_delete
spelled_delete key k = rw (last_key key k) refl

spelled_swap : (key old new : List ℕ) → KeyFits key → ValueFits old → ValueFits new
    → read_op (SWAP ∷ (field key ++ (field old ++ field new))) ≡ Swap key old new
unfolding read_op read_swap
spelled_swap key old new k o n = rw (first_key key (field old ++ field new) k, first_value old (field new) o, last_value new n) refl

pub spelled_read : (op : Op) (bytes : List ℕ) → Spells op bytes → read_op bytes ≡ op
spelled_read (Get key) bytes (fits, e) = ap read_op e ∙ spelled_get key fits
spelled_read (Put key value) bytes (k, v, e) = ap read_op e ∙ spelled_put key value k v
spelled_read (Delete key) bytes (fits, e) = ap read_op e ∙ spelled_delete key fits
spelled_read (Swap key old new) bytes (k, o, n, e) = ap read_op e ∙ spelled_swap key old new k o n
spelled_read Bad bytes h = absurd h
