-- The book as an attestor: a tag is the place of its entry, from 0.
use Rattle.std.specs.Prelude.{ℕ, ◌+◌, min, Bool, ◌&&◌, List, length, take, ◌==◌, nat_le, nat_lt, slice_index_or, slice_set}
use Rattle.std.specs.Borrow.{MutBor}
use Rattle.digest.specs.Bytes.{bytes32, number32}
use Rattle.attest.specs.Limits.{words_most}
use Rattle.attest.specs.Entry.{blank, entry_of, entry_holds}
use Rattle.attest.specs.declared.book.Book.{Book}
use Rattle.attest.specs.declared.group.GroupSize.{GroupSize}
use Rattle.attest.specs.declared.entry.Entry.{Entry}

-- the most entries of a book, however long its table
abbrev pub book_most : ℕ
book_most = 4096

-- the entries that were made, the oldest first
abbrev pub entered : Book → List Entry
entered b = take b.count b.entries.now

-- a book with no entry, in the hands of the dealer
abbrev pub book_over : MutBor (List Entry) → GroupSize → Book
book_over table group = record { owner = 0; group = group; count = 0; entries = table }

-- the book in the hands of a member, or of the dealer
abbrev pub handed_to : ℕ → Book → Book
handed_to member b = record { owner = member; group = b.group; count = b.count; entries = b.entries }

-- there is an entry at the place, of this signer and these words
abbrev pub holds_at : List Entry → ℕ → ℕ → List ℕ → Bool
holds_at es place signer words = nat_lt place (length es) && entry_holds (slice_index_or es place blank) signer words

-- the tag has four bytes and is the place of an entry of this signer and these words
abbrev pub book_accepts : Book → ℕ → List ℕ → List ℕ → Bool
book_accepts b signer words tag = length tag == 4 && holds_at (entered b) (number32 tag 0) signer words

-- all words are signed until the book is full; longer bytes are no words
abbrev pub book_signs : Book → List ℕ → Bool
book_signs b words = nat_le (length words) words_most && nat_lt b.count (min book_most (length b.entries.now))

abbrev pub book_tag : Book → List ℕ → List ℕ
book_tag b words = bytes32 b.count

abbrev pub book_signed : Book → List ℕ → Book
book_signed b words = record {
  owner = b.owner;
  group = b.group;
  count = b.count + 1;
  entries = record {
    ref_ptr = b.entries.ref_ptr;
    ghost_name = b.entries.ghost_name;
    now = slice_set b.entries.now b.count (entry_of b.owner words);
  };
}
