-- RULES.md, Tail ids: the ids that wait, as they are held with their fingerprints.
-- Assumes nothing.
use Rattle.std.specs.Prelude.{◌≤◌, ◌≡◌, ℕ, ◌+◌, ◌%◌, ◌^◌, List, take, map}
use Rattle.block_records.specs.declared.block_id.BlockId.{BlockId}
use Rattle.block_records.specs.layout.Zeros.{zero_id}
use Rattle.block_records.specs.rules.Limits.{queued_limit, queued_places}
use Rattle.block_records.specs.rules.Lists.{padded}

-- ids that are the same have the same fingerprint, so that most ids are known to be new without being compared
unfoldable pub fingerprint : BlockId → ℕ
fingerprint i = (i.shard.prefix + i.seqno) % 2 ^ 64

-- 256 ids at most, zeros after them, and their fingerprints in the same places
pub record IsQueue (ids : List BlockId) (fingerprints : List ℕ) (count : ℕ) : Type 0 where
  pub few : count ≤ queued_limit
  pub ids_packed : ids ≡ padded queued_places zero_id (take count ids)
  pub fingerprints_packed : fingerprints ≡ padded queued_places 0 (map fingerprint (take count ids))
