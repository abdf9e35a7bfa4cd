-- The definitions at small values, where they compute.
use Rattle.std.specs.Prelude.{◌≡◌, ◌-◌, ◌^◌, [], ◌∷◌, bytes_eq, Some, None, if◌then◌else◌, refl}
use Rattle.std.proofs.Common.{arith}
use Rattle.gn_io.specs.Files.{whole, absent, too_long, file_answer, gained}
use Rattle.gn_io.specs.MemShelf as mem_shelf
use Rattle.gn_io.specs.MemSink as mem_sink
use Rattle.gn_io.specs.declared.shelf.Fetched.TheVariants as fetched
use Rattle.gn_io.specs.declared.sink.Put.TheVariants as put
use Rattle.gn_io.specs.Outside.{Files, Rose, with_name, with_bytes}

-- one file, `a`, of three bytes
abbrev one_file : Files
one_file name = if bytes_eq name (97 ∷ []) then Some (1 ∷ 2 ∷ 3 ∷ []) else None

at_limit : file_answer one_file [] 3 (97 ∷ []) ≡ whole (1 ∷ 2 ∷ 3 ∷ [])
at_limit = refl

past_limit : file_answer one_file [] 2 (97 ∷ []) ≡ too_long 3
past_limit = refl

not_held : file_answer one_file [] 3 (98 ∷ []) ≡ absent
not_held = refl

missed_though_held : file_answer one_file ((98 ∷ []) ∷ (97 ∷ []) ∷ []) 3 (97 ∷ []) ≡ absent
missed_though_held = refl

one_gained : gained ((1 ∷ []) ∷ []) ((1 ∷ []) ∷ (2 ∷ 3 ∷ []) ∷ []) ≡ (2 ∷ 3 ∷ []) ∷ []
one_gained = refl

name_told : with_name (Some ((1 ∷ []) ∷ [])) (2 ∷ []) ≡ Some ((1 ∷ []) ∷ (2 ∷ []) ∷ [])
name_told = refl

bytes_not_told : with_bytes None (2 ∷ []) ≡ None
bytes_not_told = refl

last_count_stands : Rose (2 ^ 64 - 1) (2 ^ 64 - 1)
last_count_stands = omega arith

count_rises : Rose 4 5
count_rises = omega arith

-- a shelf of one file whose second call fails, whose second and third find nothing, and which was asked once
abbrev asked_once : mem_shelf.StoredFiles
asked_once = record {
  files = (97 ∷ [], 1 ∷ 2 ∷ 3 ∷ []) ∷ [];
  fail = 2 ∷ [];
  miss = 2 ∷ 3 ∷ [];
  calls = (97 ∷ [], fetched.Whole) ∷ [];
}

-- and which was asked twice more
abbrev asked_thrice : mem_shelf.StoredFiles
asked_thrice = mem_shelf.with_call (mem_shelf.with_call asked_once (97 ∷ []) fetched.Failed) (98 ∷ []) fetched.Absent

fails_before_it_misses : mem_shelf.answer_of asked_once (97 ∷ []) 3 ≡ fetched.Failed
fails_before_it_misses = refl

too_long_past_the_limit : mem_shelf.answer_of asked_thrice (97 ∷ []) 2 ≡ fetched.TooLong 3
too_long_past_the_limit = refl

one_name_missed : mem_shelf.missed_of asked_thrice ≡ (98 ∷ []) ∷ []
one_name_missed = refl

one_fault_counted : mem_shelf.faults_of asked_thrice ≡ 1
one_fault_counted = refl

-- a sink with room for three bytes, whose first call takes at most one
abbrev small : mem_sink.StoredBytes
small = record { fail = (1, 1) ∷ (1, 2) ∷ []; room = 3; held = []; calls = 0; faults = 0 }

first_entry_counts : mem_sink.put_answer small (5 ∷ 6 ∷ []) ≡ put.Failed 1
first_entry_counts = refl

room_is_left : mem_sink.put_answer (mem_sink.after_put small (5 ∷ 6 ∷ [])) (7 ∷ 8 ∷ []) ≡ put.All
room_is_left = refl

room_is_missing : mem_sink.put_answer (mem_sink.after_put small (5 ∷ 6 ∷ [])) (7 ∷ 8 ∷ 9 ∷ []) ≡ put.Failed 2
room_is_missing = refl
