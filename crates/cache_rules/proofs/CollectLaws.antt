-- Collect and remove next collated touch neither range nor marks.
-- Assumes nothing.
use Rattle.std.specs.List.{fold}
use Rattle.std.specs.Prelude.{Option, map}
use mathlib.Core.List.{List, [], ◌∷◌}
use mathlib.Core.Path.{◌∙◌, ◌≡◌, ap, refl}
use Prim.Native.Nat.{ℕ}
use Rattle.block_records.specs.declared.block_id.BlockIdShort.{BlockIdShort}
use Rattle.block_records.specs.declared.block_id.ShardIdent.{ShardIdent}
use Rattle.block_records.specs.layout.Listed.{Keys}
use Rattle.block_records.proofs.rules.Tests.{on}
use Rattle.block_records.specs.rules.BlockId.{is_masterchain, key_shard, listed_keys, same_shard}
use Rattle.blocks_group.specs.rules.Group.{without_collated_above}
use Rattle.cache_rules.specs.Calls.{collect, remove_next_collated}
use Rattle.cache_rules.specs.Effects.{collect_shard, effect, remove_one}
use Rattle.cache_rules.specs.Model.{Model, ShardModel, on_shard}

abbrev pub mark_of : ShardModel → Option ℕ
mark_of g = g.group.mark

pub record Untouched (m m' : Model) : Type 0 where
  pub range : m'.range ≡ m.range
  pub master_mark : m'.masters.mark ≡ m.masters.mark
  pub shard_marks : map mark_of m'.shards ≡ map mark_of m.shards

collect_marks : (gs : List ShardModel) → map mark_of (map collect_shard gs) ≡ map mark_of gs
collect_marks [] = refl
collect_marks (g ∷ gs) = ap (λ (r : List (Option ℕ)). g.group.mark ∷ r) (collect_marks gs)

pub collect_untouched : (m : Model) → Untouched m (effect m collect).model
unfolding effect
collect_untouched m = record { range = refl; master_mark = refl; shard_marks = collect_marks m.shards }

on_marks : (s : ShardIdent) (n : ℕ) (gs : List ShardModel) → map mark_of (on_shard s (without_collated_above n) gs) ≡ map mark_of gs
on_marks s n [] = refl
on_marks s n (g ∷ gs) =
    on (same_shard g.shard s)
    (λ t. rw t (ap (λ (r : List (Option ℕ)). g.group.mark ∷ r) (on_marks s n gs)))
    (λ t. rw t (ap (λ (r : List (Option ℕ)). g.group.mark ∷ r) (on_marks s n gs)))

remove_one_untouched : (m : Model) (k : BlockIdShort) → Untouched m (remove_one m k)
remove_one_untouched m k =
    on (is_masterchain (key_shard k))
    (λ t. rw t (record { range = refl; master_mark = refl; shard_marks = refl }))
    (λ t. rw t (record { range = refl; master_mark = refl; shard_marks = on_marks (key_shard k) k.seqno m.shards }))

removed : (ks : List BlockIdShort) (m : Model) → Untouched m (fold remove_one m ks)
removed [] m = record { range = refl; master_mark = refl; shard_marks = refl }
removed (k ∷ ks) m =
    let a = remove_one_untouched m k in
    let b = removed ks (remove_one m k) in
    record { range = b.range ∙ a.range; master_mark = b.master_mark ∙ a.master_mark; shard_marks = b.shard_marks ∙ a.shard_marks }

pub remove_untouched : (m : Model) (ks : Keys) → Untouched m (effect m (remove_next_collated ks)).model
unfolding effect
remove_untouched m ks = removed (listed_keys ks) m
