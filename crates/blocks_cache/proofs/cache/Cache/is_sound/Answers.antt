-- The parts, each by its function, are question 1.
use Rattle.std.proofs.Common.{sym}
use Rattle.blocks_cache.proofs.layout.SoundnessLaws.{sound_cache_parts}
use Rattle.blocks_cache.proofs.cache.Cache.is_sound.Goals as goal

pub returns : goal.returns
returns c =
    rw (c.sound_master_group-masters.ensures, c.sound_range-range.ensures, c.sound_ids-ids.ensures.sound, c.sound_shards-shards.ensures.sound)
    (sym (sound_cache_parts c.args.self.now c.sound_ids-ids.ensures.places c.sound_shards-shards.ensures.places))
