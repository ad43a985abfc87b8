-- RULES.md, Ids, shards and keys: shards, keys and ids, their equality and order as tests; and what is listed below a count.
-- Assumes nothing.
use lib.Pointwise.{pointwise}
use Rattle.std.specs.Prelude.{Bool, ◌&&◌, false, true, List, [], ◌∷◌, ℕ, eqb, ltb, negsuc, take}
use Rattle.std.specs.Int.Signed.{lt_z}
use Rattle.block_records.specs.declared.block_id.BlockId.{BlockId}
use Rattle.block_records.specs.declared.block_id.BlockIdShort.{BlockIdShort}
use Rattle.block_records.specs.declared.block_id.ShardIdent.{ShardIdent}
use Rattle.block_records.specs.declared.top_block.TopBlock.{TopBlock}
use Rattle.block_records.specs.layout.Listed.{Keys, PrevIds, TopBlocks}
use Rattle.std.specs.Ordering.{int_eq}
use Rattle.block_records.specs.rules.Order.{then_by}

-- the shard of an id
abbrev pub id_shard : BlockId → ShardIdent
id_shard i = i.shard

-- the shard of a key
abbrev pub key_shard : BlockIdShort → ShardIdent
key_shard k = k.shard

-- the key of an id: all of it but its hashes
abbrev pub key : BlockId → BlockIdShort
key i = record { shard = i.shard; seqno = i.seqno }

-- the workchain is -1; the prefix is not looked at
abbrev pub is_masterchain : ShardIdent → Bool
is_masterchain s = int_eq s.workchain (negsuc 0)

-- equality of hashes, byte by byte
abbrev pub same_hash : List ℕ → List ℕ → Bool
same_hash a b = pointwise eqb a b

-- order of hashes: at the first byte that differs the lower comes first; a hash comes before its continuations
abbrev pub less_hash : List ℕ → List ℕ → Bool
less_hash [] [] = false
less_hash [] (y ∷ ys) = true
less_hash (x ∷ xs) [] = false
less_hash (x ∷ xs) (y ∷ ys) = then_by (ltb x y) (eqb x y) (less_hash xs ys)

-- the same workchain and prefix
abbrev pub same_shard : ShardIdent → ShardIdent → Bool
same_shard a b = int_eq a.workchain b.workchain && eqb a.prefix b.prefix

-- the lower workchain first, as integers, then the lower prefix
unfoldable pub less_shard : ShardIdent → ShardIdent → Bool
less_shard a b = then_by (lt_z a.workchain b.workchain) (int_eq a.workchain b.workchain) (ltb a.prefix b.prefix)

-- the same shard and seqno
abbrev pub same_key : BlockIdShort → BlockIdShort → Bool
same_key a b = same_shard (key_shard a) (key_shard b) && eqb a.seqno b.seqno

-- the same shard, seqno and hashes
abbrev pub same_id : BlockId → BlockId → Bool
same_id a b =
    same_shard (id_shard a) (id_shard b) && (eqb a.seqno b.seqno
    && (same_hash a.root_hash b.root_hash && same_hash a.file_hash b.file_hash))

-- the lower shard first, then the lower seqno, root hash, file hash
unfoldable pub less_id : BlockId → BlockId → Bool
less_id a b =
    then_by (less_shard (id_shard a) (id_shard b)) (same_shard (id_shard a) (id_shard b))
    (then_by (ltb a.seqno b.seqno) (eqb a.seqno b.seqno)
    (then_by (less_hash a.root_hash b.root_hash) (same_hash a.root_hash b.root_hash)
    (less_hash a.file_hash b.file_hash)))

-- the ids below the count, all of them where it is past the places
abbrev pub listed_prev_ids : PrevIds → List BlockId
listed_prev_ids p = take p.count p.items

-- the keys below the count, all of them where it is past the places
abbrev pub listed_keys : Keys → List BlockIdShort
listed_keys k = take k.count k.items

-- the top items below the count, all of them where it is past the places
abbrev pub listed_tops : TopBlocks → List TopBlock
listed_tops t = take t.count t.items
