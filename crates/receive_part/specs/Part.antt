-- The receive part of a connection (R2.4): when it is shaped, when it is empty, and when it is a running transfer.
use Rattle.std.specs.Prelude.{ℕ, ◌^◌, eqb, leb, ltb, Bool, true, false, cond, ◌&&◌}
use Rattle.receive_part.specs.declared.Part.{Part}
use Rattle.receive_part.specs.declared.Part.TheVariants.{Header, Payload, Skip, Transfer}

-- what a number of `held` header bytes stays below: 256 to the `held`; 0 for more bytes than the 7 that can be held
unfoldable pub room_for : ℕ → ℕ
room_for held = cond (leb held 7) (256 ^ held) 0

-- R2.4: 0..7 header bytes, kept as one number below 256 to the bytes held; a payload with fewer bytes held than its length; at least one
-- byte still to skip; R19.8: at least one byte of a transfer still to come
abbrev pub shaped : Part → Bool
shaped (Header held value) = leb held 7 && ltb value (256 ^ held)
shaped (Payload route length held) = ltb held length
shaped (Skip bytes) = ltb 0 bytes
shaped (Transfer route left) = ltb 0 left

-- no receive part: ready, and at a header's first byte
abbrev pub empty_part : Part → Bool
empty_part (Header held value) = eqb held 0 && eqb value 0
empty_part (Payload route length held) = false
empty_part (Skip bytes) = false
empty_part (Transfer route left) = false

-- R19.8: whether a transfer runs: some of its bytes are still to come
abbrev pub transferring : Part → Bool
transferring (Header held value) = false
transferring (Payload route length held) = false
transferring (Skip bytes) = false
transferring (Transfer route left) = true

-- the receive part of a connection that is ready
abbrev pub ready_part : Part
ready_part = Header 0 0
