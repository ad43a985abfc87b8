-- What each turn of an extraction's walk keeps, all its turns keep.
-- Assumes nothing.
use mathlib.Core.List.{List, [], ◌∷◌}
use Prim.Native.Nat.{suc, zero, ℕ}
use mathlib.Core.Path.{◌≡◌, refl}
use Rattle.std.specs.Prelude.{Option}
use Rattle.block_records.specs.declared.block_id.BlockId.{BlockId}
use Rattle.block_records.specs.rules.BlockId.{key}
use Rattle.block_records.specs.rules.Entry.{Entry}
use Rattle.cache_rules.specs.Extraction.{Walk, take_found, take_id, take_one, take_times}
use Rattle.cache_rules.specs.Model.{block_under}

-- what is kept where an id is taken, by what is cached under its key, is kept by every number of turns
module _ (m : ℕ) (P : Walk → Type 0)
    (found : (w : Walk) (i : BlockId) (rest : List BlockId) (o : Option Entry) → w.waiting ≡ i ∷ rest → block_under w.shards (key i) ≡ o → P w → P (take_found m i rest w o)) where
  id_keeps : (w : Walk) (q : List BlockId) → w.waiting ≡ q → P w → P (take_id m w q)
  id_keeps w [] e h = h
  id_keeps w (i ∷ rest) e h = found w i rest (block_under w.shards (key i)) e refl h

  pub walk_keeps : (k : ℕ) (w : Walk) → P w → P (take_times k m w)
  walk_keeps zero w h = h
  walk_keeps (suc k) w h = walk_keeps k (take_one m w) (id_keeps w w.waiting refl h)
