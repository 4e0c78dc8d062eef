-- To compute by the rules: `unfolding rules_opened` opens every definition that is named here.
use Rattle.std.specs.Prelude.{Bool, true}
use Rattle.slices.specs.Test.{◌and◌}
use Rattle.slices.specs.Bytes.{le16, le32, le16_bytes, le32_bytes, pairwise, all_are, overwrite, padded}
use Rattle.slices.specs.Chunks.{flat, chunks, chunks_from, used, packed, contains, distinct, find, remove, replace, replace_or_append}
use Rattle.names.specs.Name.{units, each, is_name, is_terminated, named, is_hex_digit, unit_matches, wildcards, is_plain_terminated}
use Rattle.entry.specs.Entry.{header_ok, lock_ok, name_ok, well_formed, name_of, lock_of, trigger_of, targets, rank, same_target}
use Rattle.policy.specs.Policy.{length_by, valid_within}
use Rattle.policy.specs.Choice.{chosen, place_of}
use Rattle.bits.specs.Bits.{is_set, how_many, least, missing_bits, prohibited_bits, lowest_bit}
use Rattle.store.specs.Record as stored
use Rattle.store.specs.Store.{store_ok, without_variable, has_room, with_record}
use Rattle.stores.specs.Pair.{sound, sound_alone, lookup}
use Rattle.rules.specs.Set.{exists, is_empty, holds_value, locks, is_deletion, size_allowed, attributes_allowed, request_ground, ground_of, other_attributes, is_empty_append, payload_after, write_decision, bad_request, unsupported_bit, needs_bs, needs_runtime, request_status, shown, exit_protects, decision, decision_store}
use Rattle.rules.specs.Report.{report_for}
use Rattle.rules.specs.Settled.{lock_holds_by, lock_holds_in, settled_in}
use Rattle.rules.specs.Engine.{step, power_on_status, restart_status, register_status, dump_status, read_status, settled_status, decision_by}

unfoldable pub rules_opened : Bool
unfolding ◌and◌ le16 le32 le16_bytes le32_bytes pairwise all_are overwrite padded flat chunks chunks_from used packed contains distinct find remove replace replace_or_append units each is_name is_terminated is_plain_terminated named is_hex_digit unit_matches wildcards header_ok lock_ok name_ok well_formed name_of trigger_of targets rank same_target length_by valid_within chosen place_of is_set how_many least missing_bits prohibited_bits lowest_bit stored.namespace_of stored.name_of stored.payload_of stored.attributes_ok stored.header_ok stored.body_ok stored.record_ok stored.record_length stored.is_of stored.encode_record store_ok without_variable has_room with_record sound sound_alone lookup exists is_empty holds_value locks lock_of is_deletion size_allowed attributes_allowed request_ground ground_of other_attributes is_empty_append payload_after write_decision bad_request unsupported_bit needs_bs needs_runtime request_status shown exit_protects decision decision_store report_for lock_holds_by lock_holds_in settled_in step power_on_status restart_status register_status dump_status read_status settled_status decision_by
rules_opened = true
