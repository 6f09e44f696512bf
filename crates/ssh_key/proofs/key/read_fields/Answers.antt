use Rattle.std.proofs.Common.{◌≡◌, ◌≤◌, ℕ, List, Ok, length, arith}
use Rattle.std.proofs.lemmas.List.{length-append}
use Rattle.ssh_wire.specs.Wire.{string}
use Rattle.ssh_key.specs.Fields.{bits_of_size}
use Rattle.ssh_key.specs.Key.{blob_of}
use Rattle.ssh_key.specs.KeyReading.{before_rest, bits_at, of_size}
use Rattle.ssh_key.specs.Kind.{type_name}
use Rattle.ssh_key.proofs.Keys.{bits_left, size_read}
use Rattle.ssh_key.proofs.key.read_fields.Goals as goal

pub slice_bounds-fields-count : goal.slice_bounds-fields-count
slice_bounds-fields-count c =
    rw (c.rest.ensures) (bits_left c.args.kind c.rest-bytes.result.now (_, c.read_size.new.cursor) c.are_bytes.ensures (rw c.new-ahead.ensures at c.in_ok-size.ensures.read))

pub invariant_of-key : goal.invariant_of-key
invariant_of-key c =
    let bytes : List ℕ = c.rest-bytes.result.now in
    let size : ℕ × List ℕ = (bits_of_size c.in_ok-size.size, c.read_size.new.cursor) in
    let read : bits_at c.args.kind bytes ≡ Ok size = rw c.new-ahead.ensures at c.in_ok-size.ensures.read in
    let kept : length (before_rest bytes c.read_size.new.cursor) ≤ c.longest_fields.result = rw c.rest.ensures at c.if-fields-longest_fields.false in
    let short : length (blob_of (of_size c.args.kind bytes size)) ≤ 65536 = omega (arith, c.longest_fields.ensures, length-append (string (type_name c.args.kind)) (before_rest bytes c.read_size.new.cursor)) in
    rw (c.bits.ensures, c.rest.ensures) (size_read c.args.kind bytes size c.are_bytes.ensures read short)
