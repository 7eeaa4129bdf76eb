-- How a tree of pages is read, and how many pages an image takes. Read in this order:
-- `Reading`, how a word is found from a top page, and which pages are met on the way;
-- `Image`, the finite map that a tree keeps, its nodes, and how many pages a new image needs beside an old one;
-- `Reach`, the pages that a top page reaches, as a list; `Laws`, what holds of all these, which the public calls promise;
-- `Draft`, words that are to be set; then `ThreeWords`, `FourSelectors` and `Examples`, worked out. How a tree keeps an image is
-- in `TreeForm`. Then `Numbering`, the page of each node and how a tree stands in the words of all pages, with `NumberingLaws`;
-- `Paged`, a tree that keeps the numbers of its pages; and `Drawing`, how the numbers of a draft are found; `Planned`, what a new
-- version needs.
pub mod Reading
pub mod Image
pub mod Reach
pub mod Laws
pub mod ThreeWords
pub mod Examples
pub mod Draft
pub mod TreeForm
pub mod Numbering
pub mod NumberingLaws
pub mod Paged
pub mod Drawing
pub mod Planned
pub mod FourSelectors
