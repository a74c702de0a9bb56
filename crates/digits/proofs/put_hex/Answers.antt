-- The digits of one byte more, and that there is room for them. Assumes nothing.
use mathlib.Core.Path.{refl}
use Prim.Native.Nat.{◌/◌, ◌%◌, ◌<◌}
use native.Mathlib.Omega.{arith}
use lib.ListN.{get_or}
use Rattle.digits.specs.Digits.{hex}
use Rattle.writer.proofs.Laws.{wrote_nothing}
use Rattle.digits.proofs.Laws.{hex_long, hex_front, hex_turn, table_right}
use Rattle.digits.proofs.put_hex.Goals as goal

pub loop-byte-preserved : goal.loop-byte-preserved
loop-byte-preserved c =
    let a = c.args in
    let l = c.loop-byte in
    let byte = get_or a.bytes.now l.byte-index 0 in
    let small : byte < 256 = omega (arith, c.type_inv.bytes l.byte-index) in
    hex_turn a.at l.byte-index _ _ a.bytes.now (omega arith) c.requires l.invariant c.put_byte-next.ensures c.put_byte-next-in-loop-byte.ensures
    (table_right (byte / 16) _ (omega arith) refl) (table_right (byte % 16) _ (omega arith) refl)

pub loop-byte-init : goal.loop-byte-init
unfolding hex
loop-byte-init c = wrote_nothing _ _

pub put_byte-next-requires : goal.put_byte-next-requires
put_byte-next-requires c =
    let l = c.loop-byte in
    let bytes = c.args.bytes.now in
    omega (arith, l.invariant.next_is, hex_front l.byte-index bytes (omega arith), hex_long bytes)

pub put_byte-next-requires-in-loop-byte : goal.put_byte-next-requires-in-loop-byte
put_byte-next-requires-in-loop-byte c =
    let l = c.loop-byte in
    let bytes = c.args.bytes.now in
    let p = c.put_byte-next in
    omega (arith, p.ensures.next_is, p.auto.out, l.invariant.next_is, hex_front l.byte-index bytes (omega arith), hex_long bytes)
